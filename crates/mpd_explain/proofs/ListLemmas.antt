-- Lists over ranges of numbers, one number at a time.
use Rattle.std.proofs.Common.{◌≡◌, ℕ, suc, ◌<◌, ◌≤◌, ◌+◌, ◌-◌, Bool, true, false, cond, List, [], ◌∷◌, ◌++◌, map, Option, Some, None, refl, sym, ap, ◌∙◌, arith, append_assoc, append-nil}
use Rattle.std.specs.List.{filter, flat_map, range_with_len}
use Rattle.mpd_model.specs.steps.Why.{first_in}

pub mapped_more : {A : Type 0} (f : ℕ → A) (i n : ℕ) (so_far now total : List A) (x : A) → i < n → so_far ++ map f (range_with_len i (n - i)) ≡ total → now ≡ so_far ++ x ∷ [] → x ≡ f i
    → now ++ map f (range_with_len (i + 1) (n - (i + 1))) ≡ total
mapped_more f i n so_far now total x h e more is =
    let k : n - i ≡ suc (n - (i + 1)) = omega arith in
    let u : map f (range_with_len i (n - i)) ≡ f i ∷ map f (range_with_len (i + 1) (n - (i + 1))) = rw k refl in
    ap (λ xs. xs ++ map f (range_with_len (i + 1) (n - (i + 1)))) (more ∙ ap (λ y. so_far ++ y ∷ []) is) ∙ append_assoc so_far (f i ∷ []) (map f (range_with_len (i + 1) (n - (i + 1)))) ∙ ap (λ xs. so_far ++ xs) (sym u) ∙ e

-- ---- the first number behind i that passes, up to n

module _ (t : ℕ → Bool) where
  abbrev pub first_behind : ℕ → ℕ → Option ℕ
  first_behind i n = first_in (filter t (range_with_len (i + 1) (n - i)))

  first_by : (b : Bool) (i : ℕ) (rest : List ℕ) → b ≡ false → first_in (cond b (i ∷ rest) rest) ≡ first_in rest
  first_by true i rest h = cc
  first_by false i rest h = refl

  this_by : (b : Bool) (i : ℕ) (rest : List ℕ) → b ≡ true → first_in (cond b (i ∷ rest) rest) ≡ Some i
  this_by true i rest h = refl
  this_by false i rest h = cc

  first_next : (i n : ℕ) → i < n → first_behind i n ≡ first_in (cond (t (i + 1)) ((i + 1) ∷ filter t (range_with_len (i + 1 + 1) (n - (i + 1)))) (filter t (range_with_len (i + 1 + 1) (n - (i + 1)))))
  first_next i n h = let k : n - i ≡ suc (n - (i + 1)) = omega arith in rw k refl

  pub first_on : (i n : ℕ) (total : Option ℕ) → i < n → first_behind i n ≡ total → t (i + 1) ≡ false → first_behind (i + 1) n ≡ total
  first_on i n total h e other = sym (first_by (t (i + 1)) (i + 1) (filter t (range_with_len (i + 1 + 1) (n - (i + 1)))) other) ∙ sym (first_next i n h) ∙ e

  pub first_now : (i n : ℕ) (total : Option ℕ) → i < n → first_behind i n ≡ total → t (i + 1) ≡ true → Some (i + 1) ≡ total
  first_now i n total h e here = sym (this_by (t (i + 1)) (i + 1) (filter t (range_with_len (i + 1 + 1) (n - (i + 1)))) here) ∙ sym (first_next i n h) ∙ e

  pub first_none : (i n : ℕ) (total : Option ℕ) → n ≤ i → first_behind i n ≡ total → None ≡ total
  first_none i n total h e = let k : n - i ≡ 0 = omega arith in sym (ap (λ m. first_in (filter t (range_with_len (i + 1) m))) k) ∙ e

-- ---- numbers that are chosen, one at a time

module _ (t : ℕ → Bool) where
  filter_split : (b : Bool) (xs : List ℕ) (x : ℕ) (rest : List ℕ) → xs ++ cond b (x ∷ rest) rest ≡ (xs ++ cond b (x ∷ []) []) ++ rest
  filter_split true xs x rest = sym (append_assoc xs (x ∷ []) rest)
  filter_split false xs x rest = ap (λ ys. ys ++ rest) (sym (append-nil xs))

  pub filter_more : (i n : ℕ) (b : Bool) (so_far now total : List ℕ) → i < n → so_far ++ filter t (range_with_len i (n - i)) ≡ total → b ≡ t i → now ≡ so_far ++ cond b (i ∷ []) [] → now ++ filter t (range_with_len (i + 1) (n - (i + 1))) ≡ total
  filter_more i n b so_far now total h e test more =
      let k : n - i ≡ suc (n - (i + 1)) = omega arith in
      let u : filter t (range_with_len i (n - i)) ≡ cond (t i) (i ∷ filter t (range_with_len (i + 1) (n - (i + 1)))) (filter t (range_with_len (i + 1) (n - (i + 1)))) = rw k refl in
      ap (λ xs. xs ++ filter t (range_with_len (i + 1) (n - (i + 1)))) (more ∙ ap (λ c. so_far ++ cond c (i ∷ []) []) test)
      ∙ sym (filter_split (t i) so_far i (filter t (range_with_len (i + 1) (n - (i + 1))))) ∙ ap (λ xs. so_far ++ xs) (sym u) ∙ e

-- ---- the numbers of a range that pass a test, one number at a time

module _ {A : Type 0} (t : ℕ → Bool) (f : ℕ → List A) where
  passed_split : (b : Bool) (i : ℕ) (so_far : List A) (xs : List ℕ) → so_far ++ flat_map f (cond b (i ∷ xs) xs) ≡ (so_far ++ cond b (f i) []) ++ flat_map f xs
  passed_split true i so_far xs = sym (append_assoc so_far (f i) (flat_map f xs))
  passed_split false i so_far xs = ap (λ ys. ys ++ flat_map f xs) (sym (append-nil so_far))

  pub passed_more : (i n : ℕ) (so_far now total : List A) → i < n → so_far ++ flat_map f (filter t (range_with_len i (n - i))) ≡ total → now ≡ so_far ++ cond (t i) (f i) []
      → now ++ flat_map f (filter t (range_with_len (i + 1) (n - (i + 1)))) ≡ total
  passed_more i n so_far now total h e more =
      let rest : List ℕ = filter t (range_with_len (i + 1) (n - (i + 1))) in
      let k : n - i ≡ suc (n - (i + 1)) = omega arith in
      let u : filter t (range_with_len i (n - i)) ≡ cond (t i) (i ∷ rest) rest = rw k refl in
      ap (λ xs. xs ++ flat_map f rest) more ∙ sym (passed_split (t i) i so_far rest) ∙ ap (λ xs. so_far ++ flat_map f xs) (sym u) ∙ e
