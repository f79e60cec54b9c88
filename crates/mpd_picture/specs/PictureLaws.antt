-- What a drawing shows of a run: its calls, the pairs as arrows, the releases as bars; and where.
use Rattle.std.specs.Prelude.{◌≡◌, ℕ, ◌≤◌, ◌==◌, Bool, true, false, ◌&&◌, if◌then◌else◌, List, [], ◌∷◌, map, Some}
use Rattle.mpd_model.specs.declared.step.CallId.{CallId}
use Rattle.std.specs.List.{filter, flat_map}
use Rattle.mpd_model.specs.declared.step.Step.{Step}
use Rattle.mpd_model.specs.declared.call.Mode.{Mode}
use Rattle.mpd_model.specs.declared.call.MatchSet.{MatchSet}
use Rattle.mpd_model.specs.declared.call.MatchSet.TheVariants.{Pair, Woke}
use Rattle.mpd_model.specs.declared.call.MatchSet.TheVariants as set
use Rattle.mpd_model.specs.script.Program.{Program}
use Rattle.mpd_model.specs.steps.World.{World, start, call_id, call_numbers}
use Rattle.mpd_model.specs.steps.Next.{fold}
use Rattle.mpd_picture.specs.declared.glyph.Glyph.{Glyph}
use Rattle.mpd_picture.specs.declared.glyph.Mark.{Mark}
use Rattle.mpd_picture.specs.declared.glyph.Event.{Event}
use Rattle.mpd_picture.specs.declared.glyph.Event.TheVariants.{Paired}
use Rattle.mpd_picture.specs.declared.shape.Shape.{Shape}
use Rattle.mpd_picture.specs.declared.shape.Shape.TheVariants.{Arrow, Bar}
use Rattle.mpd_picture.specs.declared.shape.Shape.TheVariants as shape
use Rattle.mpd_picture.specs.Glyphs.{glyphs_of}
use Rattle.mpd_picture.specs.Marks.{is_row, stands_in, under, below, row_of, event_row, marks_of}
use Rattle.mpd_picture.specs.Shapes.{shapes_of}

-- the match set that a shape is drawn for: an arrow for a pair, a bar for a release
abbrev pub set_of_shape : Shape → List MatchSet
set_of_shape (Arrow c from d to place) = Pair c.call d ∷ []
set_of_shape (Bar row place) = set.Barrier ∷ []
set_of_shape shape = []

-- A rank that goes on from its call is no arrow and no bar.
abbrev pub is_drawn : MatchSet → Bool
is_drawn (Woke c) = false
is_drawn m = true

-- In the drawing of any run the arrows are exactly the pairs of its state, each from its send to
-- its receive, and the bars its releases, in the order in which they were formed.
abbrev pub ArrowsArePairs : Type 0
ArrowsArePairs =
    (s : Program) (mode : Mode) (steps : List Step) (w : World) → fold (start s mode) steps ≡ Some w
    → flat_map set_of_shape (shapes_of s w (marks_of (glyphs_of s mode steps)))
    ≡ filter is_drawn w.board.sets

-- the call of a rank that a shape is drawn for
abbrev pub call_of_shape : ℕ → Shape → List CallId
call_of_shape p (shape.Call c row place free) = if p == c.call.rank then c.call ∷ [] else []
call_of_shape p x = []

-- In the drawing of any run the calls of each rank are exactly those of its state, each once, in
-- the order in which they were issued.
abbrev pub CallsAreDrawnOnce : Type 0
CallsAreDrawnOnce =
    (s : Program) (mode : Mode) (steps : List Step) (w : World) → fold (start s mode) steps ≡ Some w
    → (p : ℕ) → flat_map (call_of_shape p) (shapes_of s w (marks_of (glyphs_of s mode steps)))
    ≡ map (call_id p) (call_numbers w.board p)

-- whether something takes a row in the lane of a rank
abbrev pub in_lane : ℕ → Event → Bool
in_lane p e = is_row e && stands_in p e

-- those of these marks that take a row in the lane of a rank stand above this row
abbrev pub AreAbove : ℕ → ℕ → List Mark → Type 0
AreAbove p row [] = Unit {0}
AreAbove p row (m ∷ ms) = (in_lane p m.event ≡ true → below m ≤ row) × AreAbove p row ms

-- In each lane what takes a row stands below all that took one before it.
abbrev pub LanesGoDown : Type 0
LanesGoDown =
    (glyphs : List Glyph) (p : ℕ) (e : Event) → in_lane p e ≡ true
    → AreAbove p (event_row (marks_of glyphs) e) (marks_of glyphs)

-- A match stands below its send.
abbrev pub MessagesGoDown : Type 0
MessagesGoDown =
    (glyphs : List Glyph) (c d : CallId)
    → under (row_of (marks_of glyphs) c) ≤ event_row (marks_of glyphs) (Paired c d)
