-- What passes a test, of the numbers of a list: in how many places a number stands, and what one leaves that passes no more.
use Rattle.std.proofs.Common.{◌≡◌, ◌≢◌, ℕ, zero, suc, ◌+◌, ◌<◌, ◌≤◌, Bool, true, false, cond, List, [], ◌∷◌, ◌++◌, inl, inr, refl, sym, ap, ◌∙◌, arith}
use Rattle.mpd_laws.proofs.ordered.Eligible.{clash}
use Rattle.std.proofs.lemmas.Bool.{cases_Bool}
use Rattle.std.proofs.lemmas.Bool.Decides.{eqb_tells}
use Rattle.std.specs.List.{filter, range_with_len}
use Rattle.mpd_queue.specs.InOrder.{places_in, removed}
use Rattle.mpd_queue.proofs.Places.{places_cons, places_here, places_same, places_there, places_more, removed_here, removed_there}

pub passed_here : (t : ℕ → Bool) (x : ℕ) (xs : List ℕ) → t x ≡ true → filter t (x ∷ xs) ≡ x ∷ filter t xs
passed_here t x xs e = ap (λ (b : Bool). cond b (x ∷ filter t xs) (filter t xs)) e

pub passed_there : (t : ℕ → Bool) (x : ℕ) (xs : List ℕ) → t x ≡ false → filter t (x ∷ xs) ≡ filter t xs
passed_there t x xs e = ap (λ (b : Bool). cond b (x ∷ filter t xs) (filter t xs)) e

pub passed_same : (t u : ℕ → Bool) (xs : List ℕ) → ((x : ℕ) → 0 < places_in xs x → t x ≡ u x) → filter t xs ≡ filter u xs
passed_same t u [] h = refl
passed_same t u (x ∷ xs) h =
    ap (λ (b : Bool). cond b (x ∷ filter t xs) (filter t xs)) (h x (omega (arith, places_here x xs)))
    ∙ ap (λ (zs : List ℕ). cond (u x) (x ∷ zs) zs) (passed_same t u xs (λ y has. h y (omega (arith, places_more y x xs))))

other_number : (t : ℕ → Bool) (x y : ℕ) → t x ≡ true → t y ≡ false → x ≢ y
other_number t x y e f same = clash (ap t (sym same) ∙ e) f

pub places_passed : (t : ℕ → Bool) (x : ℕ) (xs : List ℕ) → t x ≡ true → places_in (filter t xs) x ≡ places_in xs x
places_passed t x [] e = refl
places_passed t x (y ∷ ys) e =
    elim (cases_Bool (t y)) [
      | inl h ↦
          let f : places_in (filter t (y ∷ ys)) x ≡ places_in (y ∷ filter t ys) x = ap (λ (zs : List ℕ). places_in zs x) (passed_here t y ys h) in
          omega (arith, places_cons x y (filter t ys), places_cons x y ys, places_passed t x ys e)
      | inr h ↦
          let f : places_in (filter t (y ∷ ys)) x ≡ places_in (filter t ys) x = ap (λ (zs : List ℕ). places_in zs x) (passed_there t y ys h) in
          omega (arith, places_there x y ys (other_number t x y e h), places_passed t x ys e)
    ]

pub places_not_passed : (t : ℕ → Bool) (x : ℕ) (xs : List ℕ) → t x ≡ false → places_in (filter t xs) x ≡ 0
places_not_passed t x [] e = refl
places_not_passed t x (y ∷ ys) e =
    elim (cases_Bool (t y)) [
      | inl h ↦
          let f : places_in (filter t (y ∷ ys)) x ≡ places_in (y ∷ filter t ys) x = ap (λ (zs : List ℕ). places_in zs x) (passed_here t y ys h) in
          omega (arith, places_there x y (filter t ys) (λ same. other_number t y x h e (sym same)), places_not_passed t x ys e)
      | inr h ↦ ap (λ (zs : List ℕ). places_in zs x) (passed_there t y ys h) ∙ places_not_passed t x ys e
    ]

pub passed_removed : (t u : ℕ → Bool) (x : ℕ) (xs : List ℕ) → places_in xs x ≡ 1 → t x ≡ true → u x ≡ false → ((i : ℕ) → i ≢ x → u i ≡ t i) → removed (filter t xs) x ≡ filter u xs
passed_removed t u x [] one e f others = absurd (omega arith)
passed_removed t u x (y ∷ ys) one e f others =
    elim (eqb_tells x y) [
      | inl k ↦
          let ty : t y ≡ true = ap t (sym k.1) ∙ e in
          let uy : u y ≡ false = ap u (sym k.1) ∙ f in
          let alone : places_in ys x ≡ 0 = omega (arith, places_same x y ys k.1) in
          ap (λ (zs : List ℕ). removed zs x) (passed_here t y ys ty)
          ∙ removed_here x y (filter t ys) k.0
          ∙ passed_same t u ys (λ i has. sym (others i (λ same. let e2 : places_in ys i ≡ places_in ys x = ap (places_in ys) same in absurd (omega arith))))
          ∙ sym (passed_there u y ys uy)
      | inr k ↦
          let rest : removed (filter t ys) x ≡ filter u ys = passed_removed t u x ys (omega (arith, places_there x y ys k.1)) e f others in
          let same : u y ≡ t y = others y (λ e2. k.1 (sym e2)) in
          elim (cases_Bool (t y)) [
            | inl h ↦
                ap (λ (zs : List ℕ). removed zs x) (passed_here t y ys h)
                ∙ removed_there x y (filter t ys) k.0
                ∙ ap (λ (zs : List ℕ). y ∷ zs) rest
                ∙ sym (passed_here u y ys (same ∙ h))
            | inr h ↦ ap (λ (zs : List ℕ). removed zs x) (passed_there t y ys h) ∙ rest ∙ sym (passed_there u y ys (same ∙ h))
          ]
    ]

-- ---- numbers one after another

places_below : (a n x : ℕ) → x < a → places_in (range_with_len a n) x ≡ 0
places_below a zero x lt = refl
places_below a (suc n) x lt = omega (arith, places_there x a (range_with_len (a + 1) n) (λ e. absurd (omega arith)), places_below (a + 1) n x (omega arith))

pub places_within : (a n x : ℕ) → a ≤ x → x < a + n → places_in (range_with_len a n) x ≡ 1
places_within a zero x le lt = absurd (omega arith)
places_within a (suc n) x le lt =
    elim (eqb_tells x a) [
      | inl k ↦ omega (arith, places_same x a (range_with_len (a + 1) n) k.1, places_below (a + 1) n x (omega (arith, k.1)))
      | inr k ↦
          let ne : x ≢ a = k.1 in
          omega (arith, places_there x a (range_with_len (a + 1) n) ne, places_within (a + 1) n x (omega (arith, ne)) (omega arith))
    ]

pub places_past : (a n x : ℕ) → a + n ≤ x → places_in (range_with_len a n) x ≡ 0
places_past a zero x le = refl
places_past a (suc n) x le = omega (arith, places_there x a (range_with_len (a + 1) n) (λ e. absurd (omega arith)), places_past (a + 1) n x (omega arith))

pub one_number_more : (a n : ℕ) → range_with_len a (suc n) ≡ range_with_len a n ++ (a + n) ∷ []
one_number_more a zero = let e : a ≡ a + 0 = omega arith in ap (λ (k : ℕ). k ∷ []) e
one_number_more a (suc n) =
    let e : a + 1 + n ≡ a + suc n = omega arith in
    ap (λ (xs : List ℕ). a ∷ xs) (one_number_more (a + 1) n ∙ ap (λ (k : ℕ). range_with_len (a + 1) n ++ k ∷ []) e)
