-- Four cells at most, without a gap, and the list that they are.
use Rattle.std.specs.Prelude.{◌≡◌, ℕ, ℤ, List, [], ◌∷◌, drop, Option, Some, None}
use Rattle.std.proofs.Common.{refl, ap, ◌∙◌}
use Rattle.mpd_rank.specs.Entries.{old_cell, cell_of, was_of, IsOldCell, cell_back}
use Rattle.mpd_rank.specs.declared.change.OldCells.TheInside as cells

-- a cell before others, where there is one
abbrev pub before : Option (ℕ × ℤ) → List (ℕ × ℤ) → List (ℕ × ℤ)
before None ws = ws
before (Some w) ws = w ∷ ws

-- a list of four cells at most
abbrev pub all_listed : Option (ℕ × ℤ) → Option (ℕ × ℤ) → Option (ℕ × ℤ) → Option (ℕ × ℤ) → List (ℕ × ℤ)
all_listed a b c d = before a (before b (before c (before d [])))

-- none stands after a gap
abbrev pub IsPacked : Option (ℕ × ℤ) → Option (ℕ × ℤ) → Option (ℕ × ℤ) → Option (ℕ × ℤ) → Type 0
IsPacked a b c d = (a ≡ None → b ≡ None) × (b ≡ None → c ≡ None) × (c ≡ None → d ≡ None)

-- the first, the second, the third and the fourth of a list
abbrev pub first_of : List (ℕ × ℤ) → Option (ℕ × ℤ)
first_of [] = None
first_of (w ∷ ws) = Some w

abbrev pub second_of : List (ℕ × ℤ) → Option (ℕ × ℤ)
second_of ws = first_of (drop 1 ws)

abbrev pub third_of : List (ℕ × ℤ) → Option (ℕ × ℤ)
third_of ws = first_of (drop 2 ws)

abbrev pub fourth_of : List (ℕ × ℤ) → Option (ℕ × ℤ)
fourth_of ws = first_of (drop 3 ws)

-- the list gives the four back
abbrev pub GivesBack : Option (ℕ × ℤ) → Option (ℕ × ℤ) → Option (ℕ × ℤ) → Option (ℕ × ℤ) → List (ℕ × ℤ) → Type 0
GivesBack a b c d ws = (first_of ws ≡ a) × (second_of ws ≡ b) × (third_of ws ≡ c) × (fourth_of ws ≡ d)

pub listed_back : (a b c d : Option (ℕ × ℤ)) → IsPacked a b c d → GivesBack a b c d (all_listed a b c d)
listed_back (Some x) (Some y) (Some z) (Some w) h = (refl, refl, refl, refl)
listed_back (Some x) (Some y) (Some z) None h = (refl, refl, refl, refl)
listed_back (Some x) (Some y) None None h = (refl, refl, refl, refl)
listed_back (Some x) None None None h = (refl, refl, refl, refl)
listed_back None None None None h = (refl, refl, refl, refl)
listed_back a b None (Some w) h = absurd (let e = h.2 refl in cc)
listed_back a None (Some z) d h = absurd (let e = h.1 refl in cc)
listed_back None (Some y) c d h = absurd (let e = h.0 refl in cc)

-- four cells as numbers, each with what it held: no gap, and nothing where there is no cell
abbrev pub HoldsFour : ℕ → ℕ → ℕ → ℕ → ℤ → ℤ → ℤ → ℤ → Type 0
HoldsFour a b c d x y z w = IsPacked (old_cell a x) (old_cell b y) (old_cell c z) (old_cell d w) × (IsOldCell a x × (IsOldCell b y × (IsOldCell c z × IsOldCell d w)))

abbrev four_of : List (ℕ × ℤ) → cells.Inside
four_of ws = record {
  first = cell_of (first_of ws);
  second = cell_of (second_of ws);
  third = cell_of (third_of ws);
  fourth = cell_of (fourth_of ws);
  first_was = was_of (first_of ws);
  second_was = was_of (second_of ws);
  third_was = was_of (third_of ws);
  fourth_was = was_of (fourth_of ws);
}

-- the list gives their numbers back
pub four_back : (c : cells.Inside) → HoldsFour c.first c.second c.third c.fourth c.first_was c.second_was c.third_was c.fourth_was
    → four_of (all_listed (old_cell c.first c.first_was) (old_cell c.second c.second_was) (old_cell c.third c.third_was) (old_cell c.fourth c.fourth_was)) ≡ c
four_back c h =
    let back = listed_back (old_cell c.first c.first_was) (old_cell c.second c.second_was) (old_cell c.third c.third_was) (old_cell c.fourth c.fourth_was) h.0 in
    let a = cell_back c.first c.first_was h.1.0 in
    let b = cell_back c.second c.second_was h.1.1.0 in
    let d = cell_back c.third c.third_was h.1.1.1.0 in
    let e = cell_back c.fourth c.fourth_was h.1.1.1.1 in
    (λ i. record {
      first = (ap cell_of back.0 ∙ a.0) i;
      second = (ap cell_of back.1 ∙ b.0) i;
      third = (ap cell_of back.2 ∙ d.0) i;
      fourth = (ap cell_of back.3 ∙ e.0) i;
      first_was = (ap was_of back.0 ∙ a.1) i;
      second_was = (ap was_of back.1 ∙ b.1) i;
      third_was = (ap was_of back.2 ∙ d.1) i;
      fourth_was = (ap was_of back.3 ∙ e.1) i;
    })
