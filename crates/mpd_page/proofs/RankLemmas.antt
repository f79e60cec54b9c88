-- What entries of all ranks tell of one of them.
use Rattle.std.proofs.Common.{◌≡◌, ℕ, zero, suc, ◌+◌, ◌==◌, ◌≤◌, ◌<◌, nat_lt, Bool, true, false, List, [], ◌∷◌, ◌++◌, map, cond, refl, sym, ap, ◌∙◌, arith, append-nil}
use Rattle.std.proofs.lemmas.Bool.Decides.{Decides-eqb, nat_tests}
use Rattle.std.proofs.lemmas.Grind.{flat_map-append}
use Rattle.std.specs.List.{flat_map, range_with_len}
use Rattle.mpd_page.specs.Applied.{of_rank}

-- ---- one rank of a range

module _ {A : Type 0} (g : ℕ → List A) (p : ℕ) where
  abbrev pub own : ℕ → List A
  own q = cond (q == p) (g q) []

  nothing : (b : Bool) (q : ℕ) → (q == p) ≡ b → (q ≡ p → ⊥) → cond b (g q) [] ≡ []
  nothing true q h other = absurd (other ((Decides-eqb q p).0 h))
  nothing false q h other = refl

  others : (k i : ℕ) → p < i → flat_map own (range_with_len i k) ≡ []
  others zero i h = refl
  others (suc k) i h = ap (λ t. t ++ flat_map own (range_with_len (i + 1) k)) (nothing (i == p) i refl (λ e. absurd (omega (arith, h, e)))) ∙ others k (i + 1) (omega (arith, h))

  here : (b : Bool) (q : ℕ) → (q == p) ≡ b → q ≡ p → cond b (g q) [] ≡ g p
  here true q h e = ap g e
  here false q h e = absurd (let x : true ≡ false = sym ((Decides-eqb q p).1 e) ∙ h in cc)

  -- it is the first of the range, or one of the others
  first_or : (b : Bool) (k i : ℕ) → nat_lt i p ≡ b → i ≤ p → (i < p → flat_map own (range_with_len (i + 1) k) ≡ g p) → own i ++ flat_map own (range_with_len (i + 1) k) ≡ g p
  first_or true k i h m further =
      let less : i < p = grind (arith, nat_tests) in
      ap (λ t. t ++ flat_map own (range_with_len (i + 1) k)) (nothing (i == p) i refl (λ e. absurd (omega (arith, less, e)))) ∙ further less
  first_or false k i h m further =
      let least : p ≤ i = grind (arith, nat_tests) in
      let is : i ≡ p = omega (arith, least, m) in
      ap (λ t. t ++ flat_map own (range_with_len (i + 1) k)) (here (i == p) i refl is) ∙ ap (λ t. g p ++ t) (others k (i + 1) (omega (arith, is))) ∙ append-nil (g p)

  pub among : (k i : ℕ) → i ≤ p → p < i + k → flat_map own (range_with_len i k) ≡ g p
  among zero i h m = absurd (omega (arith, h, m))
  among (suc k) i h m = first_or (nat_lt i p) k i refl h (λ less. among k (i + 1) (omega (arith, less)) (omega (arith, m)))

-- ---- entries

joined_twice : {X A : Type 0} (f : X → List A) (h : ℕ → List X) (own : ℕ → List A) → ((q : ℕ) → flat_map f (h q) ≡ own q) → (qs : List ℕ) → flat_map f (flat_map h qs) ≡ flat_map own qs
joined_twice f h own each [] = refl
joined_twice f h own each (q ∷ qs) = flat_map-append f (h q) (flat_map h qs) ∙ ap (λ t. t ++ flat_map f (flat_map h qs)) (each q) ∙ ap (λ t. own q ++ t) (joined_twice f h own each qs)

mapped_by : {E A : Type 0} (b : Bool) (f : E → List A) (make : A → E) → ((x : A) → f (make x) ≡ cond b (x ∷ []) []) → (xs : List A) → flat_map f (map make xs) ≡ cond b xs []
mapped_by true f make each [] = refl
mapped_by false f make each [] = refl
mapped_by true f make each (x ∷ xs) = ap (λ t. t ++ flat_map f (map make xs)) (each x) ∙ ap (λ t. x ∷ t) (mapped_by true f make each xs)
mapped_by false f make each (x ∷ xs) = ap (λ t. t ++ flat_map f (map make xs)) (each x) ∙ mapped_by false f make each xs

-- where each rank has made its entries of what is told of it, that is what they tell of it
pub told_of : {E A : Type 0} (rank : E → ℕ) (what : E → A) (make : ℕ → A → E) (h : ℕ → List E) (g : ℕ → List A) → ((q : ℕ) (x : A) → rank (make q x) ≡ q) → ((q : ℕ) (x : A) → what (make q x) ≡ x)
    → ((q : ℕ) → h q ≡ map (make q) (g q)) → (n p : ℕ) → p < n → of_rank rank what p (flat_map h (range_with_len 0 n)) ≡ g p
told_of {E} {A} rank what make h g has tells made n p within =
    let f : E → List A = λ e. cond (rank e == p) (what e ∷ []) [] in
    let one : (q : ℕ) (x : A) → f (make q x) ≡ cond (q == p) (x ∷ []) [] = λ q x. ap (λ r. cond (r == p) (what (make q x) ∷ []) []) (has q x) ∙ ap (λ y. cond (q == p) (y ∷ []) []) (tells q x) in
    let each : (q : ℕ) → flat_map f (h q) ≡ own g p q = λ q. ap (flat_map f) (made q) ∙ mapped_by (q == p) f (make q) (one q) (g q) in
    joined_twice f h (own g p) each (range_with_len 0 n) ∙ among g p n 0 (omega arith) (omega (arith, within))
