-- Texts and numbers of a range, one number at a time.
use Rattle.std.proofs.Common.{◌≡◌, ℕ, suc, ◌<◌, ◌+◌, ◌-◌, Bool, true, false, cond, List, [], ◌∷◌, ◌++◌, refl, sym, ap, ◌∙◌, arith, append_assoc, append-nil}
use Rattle.std.specs.List.{filter, flat_map, range_with_len}

module _ (f : ℕ → List ℕ) where
  -- the texts of a range
  abbrev pub texts_from : ℕ → ℕ → List ℕ
  texts_from i n = flat_map f (range_with_len i n)

  pub texts_more : (i n : ℕ) (so_far now total : List ℕ) → i < n → so_far ++ texts_from i (n - i) ≡ total → now ≡ so_far ++ f i → now ++ texts_from (i + 1) (n - (i + 1)) ≡ total
  texts_more i n so_far now total h e more =
      let k : n - i ≡ suc (n - (i + 1)) = omega arith in
      let u : texts_from i (n - i) ≡ f i ++ texts_from (i + 1) (n - (i + 1)) = rw k refl in
      ap (λ xs. xs ++ texts_from (i + 1) (n - (i + 1))) more ∙ append_assoc so_far (f i) (texts_from (i + 1) (n - (i + 1))) ∙ ap (λ xs. so_far ++ xs) (sym u) ∙ e

module _ (t : ℕ → Bool) where
  -- the numbers of a range that pass a test
  abbrev pub numbers_from : ℕ → ℕ → List ℕ
  numbers_from i n = filter t (range_with_len i n)

  numbers_split : (b : Bool) (i : ℕ) (xs rest : List ℕ) → xs ++ cond b (i ∷ rest) rest ≡ (xs ++ cond b (i ∷ []) []) ++ rest
  numbers_split true i xs rest = sym (append_assoc xs (i ∷ []) rest)
  numbers_split false i xs rest = ap (λ ys. ys ++ rest) (sym (append-nil xs))

  -- one number more, where it passes
  pub numbers_more : (i n : ℕ) (so_far now total : List ℕ) (b : Bool) → i < n → so_far ++ numbers_from i (n - i) ≡ total → b ≡ t i → now ≡ so_far ++ cond b (i ∷ []) [] → now ++ numbers_from (i + 1) (n - (i + 1)) ≡ total
  numbers_more i n so_far now total b h e is more =
      let k : n - i ≡ suc (n - (i + 1)) = omega arith in
      let u : numbers_from i (n - i) ≡ cond (t i) (i ∷ numbers_from (i + 1) (n - (i + 1))) (numbers_from (i + 1) (n - (i + 1))) = rw k refl in
      ap (λ xs. xs ++ numbers_from (i + 1) (n - (i + 1))) (more ∙ ap (λ v. so_far ++ cond v (i ∷ []) []) is) ∙ sym (numbers_split (t i) i so_far (numbers_from (i + 1) (n - (i + 1)))) ∙ ap (λ xs. so_far ++ xs) (sym u) ∙ e
