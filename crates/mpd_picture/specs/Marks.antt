-- The rows of a drawing, by logical time (docs/PICTURES.md, "Rows"): each step stands as high as the steps let it that it comes after.
use Rattle.std.specs.Prelude.{ℕ, ◌+◌, ◌-◌, min, max, Bool, true, false, ◌==◌, if◌then◌else◌, List, [], ◌∷◌, ◌++◌}
use Rattle.mpd_model.specs.declared.step.CallId.{CallId}
use Rattle.mpd_model.specs.steps.World.{id_eq}
use Rattle.mpd_picture.specs.declared.glyph.Glyph.{Glyph}
use Rattle.mpd_picture.specs.declared.glyph.Mark.{Mark}
use Rattle.mpd_picture.specs.declared.glyph.Event.{Event}
use Rattle.mpd_picture.specs.declared.glyph.Event.TheVariants.{Issued, Paired, WentOn, Released, Noted}

-- what a rank that goes on shows takes no row
abbrev pub is_row : Event → Bool
is_row (WentOn c) = false
is_row e = true

-- A call stands in its rank, a match in the rank of the receive, a release in all, and so does in its own a rank that goes on, or a note.
abbrev pub stands_in : ℕ → Event → Bool
stands_in p (Issued c) = p == c.rank
stands_in p (Paired s r) = p == r.rank
stands_in p (WentOn c) = p == c.rank
stands_in p Released = true
stands_in p (Noted n) = p == n.rank

-- whether a send of a rank is matched there
abbrev pub sends_in : ℕ → Event → Bool
sends_in p (Paired s r) = p == s.rank
sends_in p e = false

abbrev pub is_issue : Event → CallId → Bool
is_issue (Issued d) c = id_eq d c
is_issue e c = false

-- the row below one; no run has more rows
abbrev pub under : ℕ → ℕ
under row = min row 1000000 + 1

abbrev pub below : Mark → ℕ
below m = under m.row

-- the row in which a call is issued, 0 if it isn't
abbrev pub row_of : List Mark → CallId → ℕ
row_of [] c = 0
row_of (m ∷ ms) c = if is_issue m.event c then m.row else row_of ms c

-- the first row below all marks
abbrev pub rows_of : List Mark → ℕ
rows_of [] = 0
rows_of (m ∷ marks) = max (if is_row m.event then below m else 0) (rows_of marks)

-- the first row below the marks of a rank
abbrev pub next_row : List Mark → ℕ → ℕ
next_row [] p = 0
next_row (m ∷ marks) p = max (if stands_in p m.event then below m else 0) (next_row marks p)

-- the last row in which a send of a rank is matched
abbrev pub sent_row : List Mark → ℕ → ℕ
sent_row [] p = 0
sent_row (m ∷ marks) p = max (if sends_in p m.event then m.row else 0) (sent_row marks p)

-- The row of what a step shows, after these marks. A match is below its send and all of the receive's rank. A rank that goes on is shown at
-- its last row, or at the last match of a send of it, whichever is lower: it doesn't go on before.
abbrev pub event_row : List Mark → Event → ℕ
event_row marks (Issued c) = next_row marks c.rank
event_row marks (Paired s r) = max (under (row_of marks s)) (next_row marks r.rank)
event_row marks (WentOn c) = max (next_row marks c.rank - 1) (sent_row marks c.rank)
event_row marks Released = rows_of marks
event_row marks (Noted n) = next_row marks n.rank

abbrev pub mark_after : List Mark → Glyph → Mark
mark_after marks m = record { row = event_row marks m.event; place = m.row; event = m.event }

-- the marks of what further steps show, with those before them
abbrev pub marks_from : List Mark → List Glyph → List Mark
marks_from marks [] = marks
marks_from marks (m ∷ glyphs) = marks_from (marks ++ mark_after marks m ∷ []) glyphs

abbrev pub marks_of : List Glyph → List Mark
marks_of glyphs = marks_from [] glyphs
