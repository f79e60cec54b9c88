-- How long a line is without what ends it.
use Rattle.std.proofs.Common.{◌≡◌, ℕ, ◌+◌, ◌<◌, ◌≤◌, Bool, true, false, ◌&&◌, ◌||◌, ◌==◌, if◌then◌else◌, List, [], ◌∷◌, ◌++◌, length, refl, ap, sym, ◌∙◌, append_assoc, arith}
use Rattle.mpd_model.specs.texts.Lines.{bare, is_ending}
use Rattle.mpd_model.proofs.LineLemmas.{ending_test}

-- two bytes at least follow
ending_not : (y c d : ℕ) (l : List ℕ) → is_ending y (c ∷ d ∷ l) ≡ false
ending_not y c d l = ending_test y (c ∷ d ∷ l) refl refl

-- a line loses at most a carriage return
bare_length_cases : (y : ℕ) (p : Bool) (l m : List ℕ) → (p ≡ true → length l ≡ 0) → length l ≤ length m + 1 → length (y ∷ l) ≤ length (if p then [] else y ∷ m) + 1
bare_length_cases y true l m none le = let e = none refl in omega (arith, e)
bare_length_cases y false l m none le = omega (arith, le)

ending_short : (y : ℕ) (l : List ℕ) → is_ending y (l ++ 10 ∷ []) ≡ true → length l ≡ 0
ending_short y [] e = refl
ending_short y (c ∷ []) e = absurd (let f : is_ending y (c ∷ 10 ∷ []) ≡ false = ending_not y c 10 [] in let g : true ≡ false = sym e ∙ f in cc)
ending_short y (c ∷ d ∷ l) e = absurd (let f : is_ending y (c ∷ d ∷ (l ++ 10 ∷ [])) ≡ false = ending_not y c d (l ++ 10 ∷ []) in let g : true ≡ false = sym e ∙ f in cc)

bare_length : (xs : List ℕ) → length xs ≤ length (bare (xs ++ 10 ∷ [])) + 1
bare_length [] = omega arith
bare_length (x ∷ xs) = bare_length_cases x (is_ending x (xs ++ 10 ∷ [])) xs (bare (xs ++ 10 ∷ [])) (ending_short x xs) (bare_length xs)

pub long_bare : (xs : List ℕ) → 4097 < length xs → 4096 < length (bare (xs ++ 10 ∷ []))
long_bare xs lt = omega (arith, bare_length xs, lt)
