-- Worked rows of long lines. What is wanted was worked out by hand.
use Rattle.std.specs.Prelude.{◌≡◌, ℕ, Bool, List, [], ◌∷◌, ◌++◌, map, replicate, Option, Some, None, codes, refl}
use Rattle.mpd_lines.specs.Folding.{cut, folded, folded_at, folded_line, lines}

-- so many letters
abbrev ink : ℕ → List ℕ
ink n = replicate n 97

-- ten bytes, the last of which is a blank
abbrev ten : List ℕ
ten = codes "aaaaaaaaa "

pub row_lines : map {B = List (List ℕ)} lines ([] ∷ codes "ab" ∷ (97 ∷ 10 ∷ 98 ∷ 10 ∷ []) ∷ []) ≡ ([] ∷ []) ∷ (codes "ab" ∷ []) ∷ (codes "a" ∷ codes "b" ∷ [] ∷ []) ∷ []
row_lines = refl

-- 80 bytes are no more than 80; a blank with 80 before it, one with 81, and one where only blanks stand before
pub row_cut : map {B = Option ℕ} (cut 80) ((ink 40 ++ 32 ∷ ink 39) ∷ (ink 80 ++ codes " b") ∷ (ink 81 ++ codes " b") ∷ (codes "    " ++ ink 90) ∷ (ink 20 ++ 32 ∷ ink 19 ++ 32 ∷ ink 60) ∷ [])
    ≡ None ∷ Some 80 ∷ Some 81 ∷ None ∷ Some 40 ∷ []
unfolding cut
row_cut = refl

-- three lines, of 79, 77 and 31 bytes
pub row_folded : folded (ten ++ ten ++ ten ++ ten ++ ten ++ ten ++ ten ++ ten ++ ten ++ ten ++ ten ++ ten ++ ten ++ ten ++ ten ++ ten ++ ten ++ codes "end" ++ 10 ∷ [])
    ≡ ten ++ ten ++ ten ++ ten ++ ten ++ ten ++ ten ++ codes "aaaaaaaaa" ++ 10 ∷ codes "        " ++ ten ++ ten ++ ten ++ ten ++ ten ++ ten ++ codes "aaaaaaaaa" ++ 10 ∷ codes "        " ++ ten ++ ten ++ codes "end" ++ 10 ∷ []
unfolding folded cut
row_folded = refl

-- what has no blank stays whole, and so does a short line; after a line feed a line has 80 bytes again
pub row_kept : map {B = List ℕ} folded (ink 100 ∷ (codes "a b" ++ 10 ∷ ink 81) ∷ (ink 78 ++ codes " b" ++ 10 ∷ ink 78 ++ codes " b") ∷ [])
    ≡ ink 100 ∷ (codes "a b" ++ 10 ∷ ink 81) ∷ (ink 78 ++ codes " b" ++ 10 ∷ ink 78 ++ codes " b") ∷ []
unfolding folded cut
row_kept = refl

-- at 20: lines of 20, 18 and 17 bytes; at 1,000 nothing is cut
pub row_narrow : folded_at 20 (ten ++ ten ++ codes "aaaaaaaaa " ++ codes "end") ≡ ten ++ codes "aaaaaaaaa" ++ 10 ∷ codes "        aaaaaaaaa" ++ 10 ∷ codes "        end"
unfolding folded_at cut
row_narrow = refl

pub row_wide : folded_at 1000 (ink 79 ++ 32 ∷ ink 79 ++ codes " end") ≡ ink 79 ++ 32 ∷ ink 79 ++ codes " end"
unfolding folded_at cut
row_wide = refl
