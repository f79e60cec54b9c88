-- In each lane rows go down, and a match stands below its send.
use Rattle.std.proofs.Common.{◌≡◌, ℕ, ◌≤◌, max, Bool, true, false, List, [], ◌∷◌, subst, arith}
use Rattle.std.specs.Prelude.{◌==◌, ◌&&◌, if◌then◌else◌}
use Rattle.std.proofs.Math.Nat.{le-max_left, le-max_right}
use Rattle.std.proofs.lemmas.Bool.Decides.{Decides-eqb}
use Rattle.mpd_picture.specs.declared.glyph.Mark.{Mark}
use Rattle.mpd_picture.specs.declared.glyph.Event.{Event}
use Rattle.mpd_picture.specs.declared.glyph.Event.TheVariants.{Issued, Paired, WentOn, Released, Noted}
use Rattle.mpd_picture.specs.Marks.{is_row, stands_in, under, below, row_of, rows_of, next_row, event_row, marks_of}
use Rattle.mpd_picture.specs.PictureLaws.{in_lane, AreAbove, LanesGoDown, MessagesGoDown}

-- the first of two numbers of which the greater is at most this, where it counts
standing : (r s : Bool) (n rest row : ℕ) → max (if s then n else 0) rest ≤ row → (r && s) ≡ true → n ≤ row
standing true true n rest row h e = let first = le-max_left n rest in omega (arith, first, h)
standing true false n rest row h e = cc
standing false s n rest row h e = cc

taking : (r s : Bool) (n rest row : ℕ) → max (if r then n else 0) rest ≤ row → (r && s) ≡ true → n ≤ row
taking true s n rest row h e = let first = le-max_left n rest in omega (arith, first, h)
taking false s n rest row h e = cc

others : (n rest row : ℕ) → max n rest ≤ row → rest ≤ row
others n rest row h = let second = le-max_right n rest in omega (arith, second, h)

-- below the marks of a rank, and below all
below_lane : (p : ℕ) (marks : List Mark) (row : ℕ) → next_row marks p ≤ row → AreAbove p row marks
below_lane p [] row h = tt
below_lane p (m ∷ ms) row h = (
  standing (is_row m.event) (stands_in p m.event) (below m) (next_row ms p) row h,
  below_lane p ms row (others (if stands_in p m.event then below m else 0) (next_row ms p) row h),
)

below_all : (p : ℕ) (marks : List Mark) (row : ℕ) → rows_of marks ≤ row → AreAbove p row marks
below_all p [] row h = tt
below_all p (m ∷ ms) row h = (
  taking (is_row m.event) (stands_in p m.event) (below m) (rows_of ms) row h,
  below_all p ms row (others (if is_row m.event then below m else 0) (rows_of ms) row h),
)

same_lane : (marks : List Mark) (p q : ℕ) → (p == q) ≡ true → next_row marks p ≤ next_row marks q
same_lane marks p q h = subst (λ k. next_row marks p ≤ next_row marks k) ((Decides-eqb p q).0 h) (omega arith)

event_below : (marks : List Mark) (p : ℕ) (e : Event) → in_lane p e ≡ true → AreAbove p (event_row marks e) marks
event_below marks p (Issued c) h = below_lane p marks (next_row marks c.rank) (same_lane marks p c.rank h)
event_below marks p (Paired c d) h =
    let lane = same_lane marks p d.rank h in
    let second = le-max_right (under (row_of marks c)) (next_row marks d.rank) in
    below_lane p marks (max (under (row_of marks c)) (next_row marks d.rank)) (omega (arith, lane, second))
event_below marks p (WentOn c) h = cc
event_below marks p Released h = below_all p marks (rows_of marks) (omega arith)
event_below marks p (Noted n) h = below_lane p marks (next_row marks n.rank) (same_lane marks p n.rank h)

pub lanes : LanesGoDown
lanes glyphs p e h = event_below (marks_of glyphs) p e h

pub messages : MessagesGoDown
messages glyphs c d = le-max_left (under (row_of (marks_of glyphs) c)) (next_row (marks_of glyphs) d.rank)
