-- What a rank holds, as an editor shows it (docs/ADAPTER.md, "Looks").
use Rattle.std.specs.Prelude.{ℕ, ℤ, List, [], ◌∷◌, ◌++◌, map, length, slice_get, Option, Some, None, codes}
use Rattle.std.specs.Fmt.{decimal, signed_decimal}
use Rattle.std.specs.List.{range_with_len}
use Rattle.mpd_model.specs.declared.step.CallId.{CallId}
use Rattle.mpd_model.specs.declared.place.DeclKind.{DeclKind}
use Rattle.mpd_model.specs.declared.place.DeclKind.TheVariants.{Variable, Handle}
use Rattle.mpd_model.specs.script.Declaration.{Declared}
use Rattle.mpd_model.specs.script.Program.{Program}
use Rattle.mpd_model.specs.steps.World.{RankWorld, World, Board, call_id, call_numbers}
use Rattle.mpd_model.specs.texts.Texts as texts
use Rattle.mpd_names.specs.declared.text.NamedCell.{NamedCell}
use Rattle.mpd_names.specs.Called.{named_cell}
use Rattle.mpd_dap.specs.declared.listed.Variable.{Variable as Entry}
use Rattle.mpd_adapter.specs.declared.numbers.Scope.{Scope}
use Rattle.mpd_adapter.specs.declared.numbers.Scope.TheVariants.{Variables, Requests, Calls, Printed}

-- ---- texts

-- `x`, or `a[2]`: the cell of an index of a declaration
abbrev pub index_text : Option ℕ → ℕ → List ℕ
index_text None i = []
index_text (Some size) i = codes "[" ++ decimal i ++ codes "]"

abbrev pub element_text : Option Declared → ℕ → List ℕ
element_text None i = []
element_text (Some d) i = d.name ++ index_text d.size i

abbrev pub named_text : List Declared → Option NamedCell → List ℕ
named_text ds None = []
named_text ds (Some c) = element_text (slice_get ds c.declaration) c.index

-- a cell by its name
abbrev pub cell_text : List Declared → DeclKind → ℕ → List ℕ
cell_text ds kind c = named_text ds (named_cell ds kind c)

abbrev pub value_text : Option ℤ → List ℕ
value_text None = []
value_text (Some v) = signed_decimal v

abbrev pub id_text : CallId → List ℕ
id_text c = texts.id_text c

abbrev pub none_text : List ℕ
none_text = codes "none"

-- the call that a handle holds, or `none`
abbrev pub request_text : ℕ → Option (Option ℕ) → List ℕ
request_text p None = none_text
request_text p (Some None) = none_text
request_text p (Some (Some i)) = id_text (call_id p i)

abbrev pub call_text : Board → CallId → List ℕ
call_text b c = texts.call_text b c

abbrev pub place_text : ℕ → List ℕ
place_text i = codes "[" ++ decimal i ++ codes "]"

-- ---- names with values

abbrev pub variable : List Declared → List ℤ → ℕ → Entry
variable ds values c = record { name = cell_text ds Variable c; value = value_text (slice_get values c) }

abbrev pub request : List Declared → ℕ → List (Option ℕ) → ℕ → Entry
request ds p handles c = record { name = cell_text ds Handle c; value = request_text p (slice_get handles c) }

abbrev pub call : Board → ℕ → ℕ → Entry
call b p i = record { name = id_text (call_id p i); value = call_text b (call_id p i) }

abbrev pub printed : List ℤ → ℕ → Entry
printed values i = record { name = place_text i; value = value_text (slice_get values i) }

-- ---- all of a rank

abbrev pub all_variables : List Declared → List ℤ → List Entry
all_variables ds values = map (variable ds values) (range_with_len 0 (length values))

abbrev pub all_requests : List Declared → ℕ → List (Option ℕ) → List Entry
all_requests ds p handles = map (request ds p handles) (range_with_len 0 (length handles))

abbrev pub all_calls : Board → ℕ → List Entry
all_calls b p = map (call b p) (call_numbers b p)

abbrev pub all_printed : List ℤ → List Entry
all_printed values = map (printed values) (range_with_len 0 (length values))

abbrev pub held_by : Program → World → ℕ → Scope → Option RankWorld → List Entry
held_by s w p scope None = []
held_by s w p Variables (Some r) = all_variables s.decls r.vars
held_by s w p Requests (Some r) = all_requests s.decls p r.handles
held_by s w p Calls (Some r) = all_calls w.board p
held_by s w p Printed (Some r) = all_printed r.out

abbrev pub held_at : Program → World → ℕ → Scope → List Entry
held_at s w p scope = held_by s w p scope (slice_get w.ranks p)
