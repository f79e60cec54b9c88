-- The shapes of a picture, by ranks and rows (docs/PICTURES.md, "Shapes").
use Rattle.std.specs.Prelude.{ℕ, ◌+◌, Bool, true, false, if◌then◌else◌, Option, Some, None}
use Rattle.std.specs.Prelude.{List, [], ◌∷◌, ◌++◌, count_by, slice_get}
use Rattle.std.specs.List.{flat_map, list_all}
use Rattle.mpd_model.specs.declared.step.CallId.{CallId}
use Rattle.mpd_model.specs.declared.step.Step.{Step}
use Rattle.mpd_model.specs.declared.step.Step.TheVariants.{Match, WakeAny}
use Rattle.mpd_model.specs.declared.call.CallKind.{CallKind}
use Rattle.mpd_model.specs.declared.call.CallKind.TheVariants.{Send, Recv}
use Rattle.mpd_model.specs.script.Program.{Program}
use Rattle.mpd_model.specs.steps.World.{World, Board, kind_at, is_free, last_call, rank_numbers}
use Rattle.mpd_model.specs.steps.Next.{waits, enabled, any_call}
use Rattle.mpd_model.specs.runs.Decisions.{takes_any}
use Rattle.mpd_picture.specs.declared.glyph.Glyph.{Glyph}
use Rattle.mpd_picture.specs.declared.glyph.Mark.{Mark}
use Rattle.mpd_picture.specs.declared.glyph.Event.{Event}
use Rattle.mpd_picture.specs.declared.glyph.Event.TheVariants.{Issued, Paired, WentOn}
use Rattle.mpd_picture.specs.declared.glyph.Event.TheVariants.{Released, Noted}
use Rattle.mpd_picture.specs.declared.shape.Shape.{Shape}
use Rattle.mpd_picture.specs.declared.shape.Shape.TheVariants.{Lane, Waiting, Posted, Arrow}
use Rattle.mpd_picture.specs.declared.shape.Shape.TheVariants.{Bar, Stub, Candidate, Request, End}
use Rattle.mpd_picture.specs.declared.shape.Shape.TheVariants as shape
use Rattle.mpd_names.specs.declared.place.PlacedCall.{PlacedCall}
use Rattle.mpd_names.specs.Placed.{placed_call_of}
use Rattle.mpd_picture.specs.Ends.{finish_of}
use Rattle.mpd_picture.specs.Marks.{is_row, rows_of, row_of}

-- ---- rows

abbrev pub has_row : Glyph → Bool
has_row m = is_row m.event

-- how many places the list of what is told has
abbrev pub places_of : List Glyph → ℕ
places_of glyphs = count_by has_row glyphs

-- ---- shapes

-- what is shown of a call that stays free: a receive is posted to the end
abbrev pub free_shapes : PlacedCall → ℕ → ℕ → Option CallKind → List Shape
free_shapes c row rows (Some (Send s)) = Stub c row ∷ []
free_shapes c row rows (Some (Recv r)) = Posted c.call row rows ∷ Stub c row ∷ []
free_shapes c row rows kind = []

abbrev pub call_shapes : Program → Board → ℕ → CallId → ℕ → ℕ → List Shape
call_shapes s b rows c row place =
    (if is_free b c then free_shapes (placed_call_of s b c) row rows (kind_at b c) else [])
    ++ shape.Call (placed_call_of s b c) row place (is_free b c) ∷ []

-- a match joins its two calls: the arrow goes from the row of its send, and is told as that
abbrev pub pair_shapes : Program → Board → List Mark → CallId → CallId → ℕ → ℕ → List Shape
pair_shapes s b marks c d row place =
    Posted d (row_of marks d) row ∷ Arrow (placed_call_of s b c) (row_of marks c) d row place ∷ []

abbrev pub event_shapes : Program → Board → List Mark → ℕ → ℕ → ℕ → Event → List Shape
event_shapes s b marks rows row place (Issued c) = call_shapes s b rows c row place
event_shapes s b marks rows row place (Paired c d) = pair_shapes s b marks c d row place
event_shapes s b marks rows row place (WentOn c) = Waiting c.rank (row_of marks c) row ∷ []
event_shapes s b marks rows row place Released = Bar row place ∷ []
event_shapes s b marks rows row place (Noted n) = shape.Note n row place ∷ []

abbrev pub mark_shapes : Program → Board → List Mark → ℕ → Mark → List Shape
mark_shapes s b marks rows m = event_shapes s b marks rows m.row m.place m.event

-- ---- candidates

-- what somebody has to choose: a match of a receive of any source, and by which request a waitany
-- goes on
abbrev pub is_choice : Board → Step → Bool
is_choice b (Match s r) = takes_any (kind_at b r)
is_choice b (WakeAny p i) = true
is_choice b a = false

-- The candidates of a choice: the enabled steps, where each has to be chosen.
abbrev pub choices_only : Board → List Step → List Step
choices_only b steps = if list_all (is_choice b) steps then steps else []

unfoldable pub candidates : World → List Step
candidates w = choices_only w.board (enabled w)

-- a request with its number, from its row to that of the waitany
abbrev pub request_shapes : Program → Board → List Mark → ℕ → CallId → Option CallId → List Shape
request_shapes s b marks number wait None = []
request_shapes s b marks number wait (Some c) =
    Request (placed_call_of s b c) (row_of marks c) (row_of marks wait) number ∷ []

-- a candidate with its number, from the row of its send to that of its receive
abbrev pub candidate_shapes : Program → World → List Mark → ℕ → Step → List Shape
candidate_shapes s w marks number (Match c d) =
    Candidate (placed_call_of s w.board c) (row_of marks c) d (row_of marks d) number ∷ []
candidate_shapes s w marks number (WakeAny p i) =
    request_shapes s w.board marks number (last_call w.board p) (any_call w p i)
candidate_shapes s w marks number a = []

-- candidates are counted as the console counts them
abbrev pub candidates_from : Program → World → List Mark → ℕ → List Step → List Shape
candidates_from s w marks number [] = []
candidates_from s w marks number (a ∷ steps) =
    candidate_shapes s w marks number a ++ candidates_from s w marks (number + 1) steps

-- ---- lanes and ends

abbrev pub lane_shapes : ℕ → ℕ → List Shape
lane_shapes rows p = Lane p rows ∷ []

-- how a rank is at the end; one that is blocked has waited up to there
abbrev pub end_shapes : Program → World → List Mark → ℕ → ℕ → List Shape
end_shapes s w marks rows p =
    (if waits (slice_get w.ranks p)
    then Waiting p (row_of marks (last_call w.board p)) rows ∷ []
    else [])
    ++ End p rows (finish_of s w p) ∷ []

abbrev pub shapes_in : Program → World → List Mark → ℕ → List Shape
shapes_in s w marks rows =
    flat_map (lane_shapes rows) (rank_numbers w.board)
    ++ flat_map (mark_shapes s w.board marks rows) marks
    ++ candidates_from s w marks 1 (candidates w)
    ++ flat_map (end_shapes s w marks rows) (rank_numbers w.board)

-- the shapes of a run of a script with these marks, which leads to this world
abbrev pub shapes_of : Program → World → List Mark → List Shape
shapes_of s w marks = shapes_in s w marks (rows_of marks)
