-- By what a state differs from the one before it (docs/PAGES.md, "Changes").
use Rattle.std.specs.Prelude.{ℕ, ℤ, Bool, true, false, ◌==◌, min, if◌then◌else◌, List, [], ◌∷◌, length, map, drop, slice_get, Option, Some, None}
use Rattle.std.specs.List.{flat_map, range_with_len}
use Rattle.std.specs.Option.{option_map}
use Rattle.std.specs.Ordering.{int_eq}
use Rattle.mpd_model.specs.declared.call.Call.{Call}
use Rattle.mpd_model.specs.declared.step.Step.{Step}
use Rattle.mpd_model.specs.declared.step.Step.TheVariants.{Local}
use Rattle.mpd_model.specs.script.Program.{Program}
use Rattle.mpd_model.specs.steps.World.{RankWorld, World, call_at, call_id, calls_of, rank_numbers}
use Rattle.mpd_names.specs.Placed.{issue_line}
use Rattle.mpd_page.specs.declared.places.RankPlace.{RankPlace}
use Rattle.mpd_page.specs.declared.reasons.Reason.{Reason}
use Rattle.mpd_page.specs.declared.changes.PlaceChange.{PlaceChange}
use Rattle.mpd_page.specs.declared.changes.CellChange.{CellChange}
use Rattle.mpd_page.specs.declared.changes.HandleChange.{HandleChange}
use Rattle.mpd_page.specs.declared.changes.Printed.{Printed}
use Rattle.mpd_page.specs.declared.changes.ShownCall.{ShownCall}
use Rattle.mpd_page.specs.declared.changes.NewCall.{NewCall}
use Rattle.mpd_page.specs.declared.changes.ReasonChange.{ReasonChange}
use Rattle.mpd_page.specs.declared.changes.NodeChange.{NodeChange}
use Rattle.mpd_page.specs.Places.{place, nowhere}
use Rattle.mpd_page.specs.Reasons.{reason}
use Rattle.mpd_page.specs.Same.{same_place, same_reason}

-- ---- where a rank stands

-- the place of a rank, where it is another than it was
abbrev pub place_if : ℕ → RankPlace → RankPlace → List PlaceChange
place_if p was now = if same_place was now then [] else record { rank = p; place = now } ∷ []

abbrev pub place_entry : Program → World → World → ℕ → List PlaceChange
place_entry s w v p = place_if p (place s w p) (place s v p)

abbrev pub places_changed : Program → World → World → List PlaceChange
places_changed s w v = flat_map (place_entry s w v) (rank_numbers v.board)

-- before the start each rank was at line 0
abbrev pub first_entry : Program → World → ℕ → List PlaceChange
first_entry s w p = place_if p nowhere (place s w p)

abbrev pub first_places : Program → World → List PlaceChange
first_places s w = flat_map (first_entry s w) (rank_numbers w.board)

-- ---- cells

-- what a rank holds, and has printed; nothing of a rank that isn't there
abbrev pub vars_of : Option RankWorld → List ℤ
vars_of None = []
vars_of (Some r) = r.vars

abbrev pub handles_of : Option RankWorld → List (Option ℕ)
handles_of None = []
handles_of (Some r) = r.handles

abbrev pub out_of : Option RankWorld → List ℤ
out_of None = []
out_of (Some r) = r.out

abbrev pub value_entry : ℕ → ℕ → ℤ → CellChange
value_entry p i y = record { rank = p; cell = i; value = y }

abbrev pub value_by : ℕ → ℕ → Option ℤ → Option ℤ → List CellChange
value_by p i (Some x) (Some y) = if int_eq x y then [] else value_entry p i y ∷ []
value_by p i was now = []

-- a cell of a rank, where it holds another value than it did
abbrev pub value_changed : ℕ → List ℤ → List ℤ → ℕ → List CellChange
value_changed p was now i = value_by p i (slice_get was i) (slice_get now i)

abbrev pub cells_changed : ℕ → List ℤ → List ℤ → List CellChange
cells_changed p was now = flat_map (value_changed p was now) (range_with_len 0 (length now))

abbrev pub values_at : World → World → ℕ → List CellChange
values_at w v p = cells_changed p (vars_of (slice_get w.ranks p)) (vars_of (slice_get v.ranks p))

abbrev pub values_changed : World → World → List CellChange
values_changed w v = flat_map (values_at w v) (rank_numbers v.board)

-- ---- handles

abbrev pub same_call : Option ℕ → Option ℕ → Bool
same_call None None = true
same_call None (Some j) = false
same_call (Some i) None = false
same_call (Some i) (Some j) = i == j

abbrev pub handle_entry : ℕ → ℕ → Option ℕ → HandleChange
handle_entry p i y = record { rank = p; handle = i; call = y }

abbrev pub handle_by : ℕ → ℕ → Option (Option ℕ) → Option (Option ℕ) → List HandleChange
handle_by p i (Some x) (Some y) = if same_call x y then [] else handle_entry p i y ∷ []
handle_by p i was now = []

abbrev pub handle_changed : ℕ → List (Option ℕ) → List (Option ℕ) → ℕ → List HandleChange
handle_changed p was now i = handle_by p i (slice_get was i) (slice_get now i)

abbrev pub requests_changed : ℕ → List (Option ℕ) → List (Option ℕ) → List HandleChange
requests_changed p was now = flat_map (handle_changed p was now) (range_with_len 0 (length now))

abbrev pub handles_at : World → World → ℕ → List HandleChange
handles_at w v p = requests_changed p (handles_of (slice_get w.ranks p)) (handles_of (slice_get v.ranks p))

abbrev pub handles_changed : World → World → List HandleChange
handles_changed w v = flat_map (handles_at w v) (rank_numbers v.board)

-- ---- what was printed

abbrev pub printed_entry : ℕ → ℤ → Printed
printed_entry p y = record { rank = p; value = y }

-- the values after the first so many
abbrev pub values_behind : {A : Type 0} → ℕ → List A → List A
values_behind n xs = drop (min n (length xs)) xs

abbrev pub printed_at : World → World → ℕ → List Printed
printed_at w v p = map (printed_entry p) (values_behind (length (out_of (slice_get w.ranks p))) (out_of (slice_get v.ranks p)))

abbrev pub printed : World → World → List Printed
printed w v = flat_map (printed_at w v) (rank_numbers v.board)

-- ---- the call that a local step has issued

-- what is shown of a call: the line of its statement, and what it is
abbrev pub call_view : Program → Call → ShownCall
call_view s c = record { line = issue_line s.lines (Some c); kind = c.kind }

abbrev pub new_call : Program → ℕ → Call → NewCall
new_call s p c = record { rank = p; call = call_view s c }

-- the call of a rank that stands after so many others
abbrev pub issued_by : Program → World → World → Step → Option NewCall
issued_by s w v (Local p) = option_map (new_call s p) (call_at v.board (call_id p (length (calls_of w.board p))))
issued_by s w v a = None

-- ---- why a rank waits

-- the reason of a rank, where it is another than it was
abbrev pub reason_if : ℕ → Reason → Reason → List ReasonChange
reason_if p was now = if same_reason was now then [] else record { rank = p; reason = now } ∷ []

abbrev pub reason_entry : World → World → ℕ → List ReasonChange
reason_entry w v p = reason_if p (reason w p) (reason v p)

abbrev pub reasons_changed : World → World → List ReasonChange
reasons_changed w v = flat_map (reason_entry w v) (rank_numbers v.board)

-- ---- all of it

-- by what a state differs from the one from which a step leads there
abbrev pub node_change : Program → World → World → Step → NodeChange
node_change s w v a = record {
  places = places_changed s w v;
  cells = values_changed w v;
  handles = handles_changed w v;
  printed = printed w v;
  call = issued_by s w v a;
  reasons = reasons_changed w v;
}

-- by what the start differs from what was before it
abbrev pub first_change : Program → World → NodeChange
first_change s w = record { places = first_places s w; cells = []; handles = []; printed = []; call = None; reasons = [] }
