-- The breakpoints of a script in another one.
use Rattle.std.specs.Prelude.{ℕ, ◌+◌, ◌==◌, ◌&&◌, Bool, true, false, if◌then◌else◌, nat_lt, is_some, List, slice_get, Option, Some, None, option_map, Result, Ok, Err}
use Rattle.mpd_model.specs.declared.breakpoint.Breakpoint.{Breakpoint}
use Rattle.mpd_model.specs.declared.breakpoint.Breakpoint.TheVariants as on
use Rattle.mpd_model.specs.declared.breakpoint.Condition.{Condition}
use Rattle.mpd_model.specs.declared.place.DeclKind.{DeclKind}
use Rattle.mpd_model.specs.declared.place.DeclKind.TheVariants.{Variable, Handle}
use Rattle.mpd_model.specs.script.Declaration.{Declared}
use Rattle.mpd_model.specs.script.Program.{Program}
use Rattle.mpd_names.specs.declared.name.Named.{Named}
use Rattle.mpd_names.specs.declared.name.NameFault.{NameFault}
use Rattle.mpd_names.specs.declared.text.NamedCell.{NamedCell}
use Rattle.mpd_names.specs.Called.{named_cell}
use Rattle.mpd_names.specs.Names.{named}

-- ---- ranks

-- the rank that a breakpoint is about
abbrev pub rank_meant : Breakpoint → Option ℕ
rank_meant (on.Line n of when) = of
rank_meant (on.Match n of) = of
rank_meant (on.Rank p) = Some p
rank_meant (on.Change p c) = Some p
rank_meant (on.Handle p h) = Some p

abbrev pub is_below : ℕ → Option ℕ → Bool
is_below ranks None = true
is_below ranks (Some p) = nat_lt p ranks

-- one of a rank that isn't there is none
abbrev pub with_rank : ℕ → Option Breakpoint → Option Breakpoint
with_rank ranks None = None
with_rank ranks (Some b) = if is_below ranks (rank_meant b) then Some b else None

-- ---- cells

abbrev pub is_array : Option Declared → Bool
is_array None = false
is_array (Some d) = is_some d.size

-- the cell of an index, where an array has it
abbrev pub element_of : Bool → Named → ℕ → Option Named
element_of array n i = if array && nat_lt i n.cells then Some (record n { first = n.first + i; cells = 1 }) else None

-- what a script has of a name: all cells, or the one of an index where the name was that of an array
abbrev pub cells_by : List Declared → Option ℕ → ℕ → Result Named NameFault → Option Named
cells_by new size i (Err f) = None
cells_by new None i (Ok n) = Some n
cells_by new (Some size) i (Ok n) = element_of (is_array (slice_get new n.declaration)) n i

abbrev pub cells_of : List Declared → Declared → ℕ → Option Named
cells_of new d i = cells_by new d.size i (named new d.name)

abbrev pub cells_in : List Declared → ℕ → Option Declared → Option Named
cells_in new i None = None
cells_in new i (Some d) = cells_of new d i

abbrev pub cells_at : List Declared → List Declared → Option NamedCell → Option Named
cells_at old new None = None
cells_at old new (Some c) = cells_in new c.index (slice_get old c.declaration)

-- The cells that a script has of the name of a cell of another one.
abbrev pub cells_again : List Declared → List Declared → DeclKind → ℕ → Option Named
cells_again old new kind c = cells_at old new (named_cell old kind c)

-- ---- breakpoints

abbrev pub watching : ℕ → DeclKind → ℕ → Breakpoint
watching p Variable c = on.Change p c
watching p Handle h = on.Handle p h

-- on cells, where they are one
abbrev pub watch_of : ℕ → Option Named → Option Breakpoint
watch_of p None = None
watch_of p (Some n) = if n.cells == 1 then Some (watching p n.kind n.first) else None

abbrev pub variable_by : Named → DeclKind → Option ℕ
variable_by n Handle = None
variable_by n Variable = if n.cells == 1 then Some n.first else None

-- the cell of a variable, where they are one
abbrev pub variable_of : Option Named → Option ℕ
variable_of None = None
variable_of (Some n) = variable_by n n.kind

abbrev pub condition_again : List Declared → List Declared → Condition → Option Condition
condition_again old new k = option_map (λ c. record k { cell = c }) (variable_of (cells_again old new Variable k.cell))

abbrev pub line_again : List Declared → List Declared → ℕ → Option ℕ → Option Condition → Option Breakpoint
line_again old new n of None = Some (on.Line n of None)
line_again old new n of (Some k) = option_map (λ j. on.Line n of (Some j)) (condition_again old new k)

abbrev pub stop_again : List Declared → List Declared → Breakpoint → Option Breakpoint
stop_again old new (on.Line n of when) = line_again old new n of when
stop_again old new (on.Match n of) = Some (on.Match n of)
stop_again old new (on.Rank p) = Some (on.Rank p)
stop_again old new (on.Change p c) = watch_of p (cells_again old new Variable c)
stop_again old new (on.Handle p h) = watch_of p (cells_again old new Handle h)

-- A breakpoint of one script is, in another, the one on the line, the rank or the cells of the same name, where these are there; or none.
abbrev pub break_again : List Declared → Program → Breakpoint → Option Breakpoint
break_again old s b = with_rank s.ranks (stop_again old s.decls b)
