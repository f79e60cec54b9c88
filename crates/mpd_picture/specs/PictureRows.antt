-- Worked rows of the rows of a drawing, and of whom ranks wait for.
use Rattle.std.specs.Prelude.{◌≡◌, ℕ, List, [], ◌∷◌, map, refl}
use Rattle.mpd_model.specs.steps.World.{call_id}
use Rattle.mpd_picture.specs.declared.glyph.Glyph.{Glyph}
use Rattle.mpd_picture.specs.declared.glyph.Mark.{Mark}
use Rattle.mpd_picture.specs.declared.glyph.Event.TheVariants.{Issued, Paired, WentOn, Released}
use Rattle.mpd_picture.specs.Glyphs.{glyph}
use Rattle.mpd_picture.specs.declared.ends.Wanted.{Wanted}
use Rattle.mpd_picture.specs.declared.ends.Wanted.TheVariants as wanted
use Rattle.mpd_picture.specs.Ends.{for_absent}
use Rattle.mpd_picture.specs.Marks.{rows_of, marks_of}

-- ---- rows

abbrev rows : List Glyph → List ℕ
rows glyphs = map (λ (m : Mark). m.row) (marks_of glyphs)

-- Two ranks send to one another, buffered, and then receive: both go on from their sends at once, and both messages are taken in row 2.
abbrev exchange : List Glyph
exchange =
    glyph 0 (Issued (call_id 0 0)) ∷ glyph 1 (Issued (call_id 1 0)) ∷ glyph 1 (WentOn (call_id 0 0)) ∷ glyph 1 (WentOn (call_id 1 0))
    ∷ glyph 2 (Issued (call_id 0 1)) ∷ glyph 3 (Issued (call_id 1 1)) ∷ glyph 4 (Paired (call_id 0 0) (call_id 1 1)) ∷ glyph 5 (Paired (call_id 1 0) (call_id 0 1))
    ∷ glyph 5 (WentOn (call_id 0 1)) ∷ glyph 5 (WentOn (call_id 1 1)) ∷ []

pub row_exchange : rows exchange ≡ 0 ∷ 0 ∷ 0 ∷ 0 ∷ 1 ∷ 1 ∷ 2 ∷ 2 ∷ 2 ∷ 2 ∷ []
row_exchange = refl

pub row_exchange_end : rows_of (marks_of exchange) ≡ 3
row_exchange_end = refl

-- Rank 0 waits for its send: it goes on in the row of the match, which stands in the other lane, and its next call is below that.
pub row_waited : rows (glyph 0 (Issued (call_id 0 0)) ∷ glyph 1 (Issued (call_id 1 0)) ∷ glyph 2 (Paired (call_id 0 0) (call_id 1 0)) ∷ glyph 2 (WentOn (call_id 0 0)) ∷ glyph 2 (WentOn (call_id 1 0)) ∷ glyph 3 (Issued (call_id 0 1)) ∷ []) ≡ 0 ∷ 0 ∷ 1 ∷ 1 ∷ 1 ∷ 2 ∷ []
row_waited = refl

-- A send of rank 0 in row 2 is taken by a receive in row 0: below the send. What rank 0 does then, since it didn't wait, is below its send alone.
pub row_late : rows (glyph 0 (Issued (call_id 1 0)) ∷ glyph 1 (Issued (call_id 0 0)) ∷ glyph 2 (Issued (call_id 0 1)) ∷ glyph 3 (Issued (call_id 0 2)) ∷ glyph 4 (Paired (call_id 0 2) (call_id 1 0)) ∷ glyph 5 (Issued (call_id 0 3)) ∷ []) ≡ 0 ∷ 0 ∷ 1 ∷ 2 ∷ 3 ∷ 3 ∷ []
row_late = refl

-- A release is below all, and so is what comes after it.
pub row_release : rows (glyph 0 (Issued (call_id 0 0)) ∷ glyph 1 (Issued (call_id 0 1)) ∷ glyph 2 (Issued (call_id 1 0)) ∷ glyph 3 Released ∷ glyph 3 (WentOn (call_id 0 1)) ∷ glyph 3 (WentOn (call_id 1 0)) ∷ glyph 4 (Issued (call_id 1 1)) ∷ []) ≡ 0 ∷ 1 ∷ 0 ∷ 2 ∷ 2 ∷ 2 ∷ 3 ∷ []
row_release = refl

-- ---- whom a rank waits for

-- a barrier at which all are, one is lacking, and two are
pub row_absent : map {B = Wanted} for_absent ([] ∷ (3 ∷ []) ∷ (1 ∷ 3 ∷ []) ∷ [])
    ≡ wanted.AllRanks ∷ wanted.Rank 3 ∷ wanted.AllRanks ∷ []
row_absent = refl
