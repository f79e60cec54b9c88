-- The words of a line, by number.
use Rattle.std.specs.Prelude.{ℕ, zero, suc, List, [], ◌∷◌}

abbrev pub word_at : List (List ℕ) → ℕ → List ℕ
word_at [] n = []
word_at (a ∷ more) zero = a
word_at (a ∷ more) (suc n) = word_at more n
