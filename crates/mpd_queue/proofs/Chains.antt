-- One list and its links.
use Rattle.std.proofs.Common.{◌≡◌, ◌≢◌, ℕ, suc, ◌-◌, ◌<◌, ◌≤◌, length, take, Option, Some, None, List, [], ◌∷◌, ◌⊎◌, inl, inr, refl, sym, ap, subst, ◌∙◌, arith}
use Rattle.std.proofs.lemmas.Bool.{eq-eqb, ne_eqb}
use Rattle.std.proofs.lemmas.Bool.Decides.{eqb_tells}
use Rattle.mpd_queue.specs.InOrder.{places_in, first_of, next_of, inserted, removed, newest_dropped, HasSpot}
use Rattle.mpd_queue.specs.Chained.{Joined, Chained}
use Rattle.mpd_queue.proofs.Places.{places_here, places_same, places_there, places_more, differ, link_tells, removed_here, removed_there, inserted_here, inserted_there}

pub end_is_none : (x : ℕ) → None ≢ Some x
end_is_none x e = cc

pub others : (x y : ℕ) → x ≢ y → Some x ≢ Some y
others x y ne e = ne (cc)

-- neighbours that stay neighbours keep a chain
pub frame : (n p n' p' : Option ℕ → Option ℕ) (S T : Option ℕ → Type 0)
    → ((u v : Option ℕ) → Joined n p u v → S u → T v → Joined n' p' u v)
    → (b : Option ℕ) (xs : List ℕ) → Chained n p b xs → S b → T None
    → ((y : ℕ) → 0 < places_in xs y → S (Some y) × T (Some y))
    → Chained n' p' b xs
frame n p n' p' S T kept b [] r sb te all = kept b None r sb te
frame n p n' p' S T kept b (y ∷ ys) r sb te all =
    let at : S (Some y) × T (Some y) = all y (omega (arith, places_here y ys)) in (
      kept b (Some y) r.0 sb at.1,
      frame n p n' p' S T kept (Some y) ys r.1 at.0 te (λ z has. all z (omega (arith, places_more z y ys))),
    )

-- what the links say of the list

pub next_first : (n p : Option ℕ → Option ℕ) (b : Option ℕ) (xs : List ℕ) → Chained n p b xs → n b ≡ first_of xs
next_first n p b [] r = r.0
next_first n p b (y ∷ ys) r = r.0.0

back_to_head : (n p : Option ℕ → Option ℕ) (b : Option ℕ) (xs : List ℕ) → Chained n p b xs → p (n b) ≡ b
back_to_head n p b [] r = ap p r.0 ∙ r.1
back_to_head n p b (y ∷ ys) r = ap p r.0.0 ∙ r.0.1

pub next_is : (n p : Option ℕ → Option ℕ) (x : ℕ) (b : Option ℕ) (xs : List ℕ) → Chained n p b xs → 0 < places_in xs x → n (Some x) ≡ next_of xs x
next_is n p x b [] r has = absurd (omega arith)
next_is n p x b (y ∷ ys) r has =
    elim (eqb_tells x y) [
      | inl t ↦ rw t.0 (ap (λ (w : ℕ). n (Some w)) t.1 ∙ next_first n p (Some y) ys r.1)
      | inr t ↦ rw t.0 (next_is n p x (Some y) ys r.1 (omega (arith, places_there x y ys t.1)))
    ]

pub back_from_next : (n p : Option ℕ → Option ℕ) (x : ℕ) (b : Option ℕ) (xs : List ℕ) → Chained n p b xs → 0 < places_in xs x → p (n (Some x)) ≡ Some x
back_from_next n p x b [] r has = absurd (omega arith)
back_from_next n p x b (y ∷ ys) r has =
    elim (eqb_tells x y) [
      | inl t ↦ ap (λ (w : ℕ). p (n (Some w))) t.1 ∙ back_to_head n p (Some y) ys r.1 ∙ ap Some (sym t.1)
      | inr t ↦ back_from_next n p x (Some y) ys r.1 (omega (arith, places_there x y ys t.1))
    ]

spot_of_none : (a : Option ℕ) → HasSpot [] a → a ≡ None
spot_of_none None f = refl
spot_of_none (Some y) f = absurd (omega arith)

spot_further_on : (a : Option ℕ) (y : ℕ) (ys : List ℕ) → a ≢ Some y → HasSpot (y ∷ ys) a → HasSpot ys a
spot_further_on None y ys ne f = tt
spot_further_on (Some z) y ys ne f = let e : places_in (y ∷ ys) z ≡ places_in ys z = places_there z y ys (λ e. ne (ap Some e)) in omega arith

pub next_from_back : (n p : Option ℕ → Option ℕ) (a b : Option ℕ) (xs : List ℕ) → Chained n p b xs → HasSpot xs a → n (p a) ≡ a
next_from_back n p a b [] r spot = let e : a ≡ None = spot_of_none a spot in ap n (ap p e ∙ r.1) ∙ r.0 ∙ sym e
next_from_back n p a b (y ∷ ys) r spot =
    elim (link_tells a y) [
      | inl t ↦ ap n (ap p t.1 ∙ r.0.1) ∙ r.0.0 ∙ sym t.1
      | inr t ↦ next_from_back n p a (Some y) ys r.1 (spot_further_on a y ys t.1 spot)
    ]

-- what comes ahead of a place is what the chain begins from, or an item of the list
pub previous_in_list : (n p : Option ℕ → Option ℕ) (a b : Option ℕ) (xs : List ℕ) → Chained n p b xs → HasSpot xs a
    → (p a ≡ b) ⊎ ((i : ℕ) × ((p a ≡ Some i) × (0 < places_in xs i)))
previous_in_list n p a b [] r spot = inl (ap p (spot_of_none a spot) ∙ r.1)
previous_in_list n p a b (y ∷ ys) r spot =
    elim (link_tells a y) [
      | inl t ↦ inl (ap p t.1 ∙ r.0.1)
      | inr t ↦ elim (previous_in_list n p a (Some y) ys r.1 (spot_further_on a y ys t.1 spot)) [
        | inl e ↦ inr (y, (e, omega (arith, places_here y ys)))
        | inr f ↦ inr (f.0, (f.1.0, omega (arith, f.1.1, places_more f.0 y ys)))
      ]
    ]

-- an item is taken out: links to it are all that changes, and its neighbours are joined

over : (n p n' p' : Option ℕ → Option ℕ) (x : ℕ) → n' (p (Some x)) ≡ n (Some x) → p' (n (Some x)) ≡ p (Some x)
    → (b v : Option ℕ) → p (Some x) ≡ b → n (Some x) ≡ v → Joined n' p' b v
over n p n' p' x to back b v at next = (ap n' (sym at) ∙ to ∙ next, ap p' (sym next) ∙ back ∙ at)

rest : (n p n' p' : Option ℕ → Option ℕ) (x : ℕ)
    → ((u : Option ℕ) → n u ≢ Some x → n' u ≡ n u) → ((v : Option ℕ) → p v ≢ Some x → p' v ≡ p v)
    → n' (p (Some x)) ≡ n (Some x) → p' (n (Some x)) ≡ p (Some x)
    → (b : Option ℕ) (ys : List ℕ) → p (Some x) ≡ b → Chained n p (Some x) ys → places_in ys x ≡ 0 → Chained n' p' b ys
rest n p n' p' x kn kp to back b [] at r none = over n p n' p' x to back b None at r.0
rest n p n' p' x kn kp to back b (z ∷ zs) at r none =
    let S : Option ℕ → Type 0 = λ u. u ≢ Some x in
    let away : (y : ℕ) → 0 < places_in (z ∷ zs) y → Some y ≢ Some x = λ y has. others y x (λ e. differ (z ∷ zs) x y none has (sym e)) in (
      over n p n' p' x to back b (Some z) at r.0.0,
      frame n p n' p' S S (λ u v j su sv. (kn u (λ e. sv (sym j.0 ∙ e)) ∙ j.0, kp v (λ e. su (sym j.1 ∙ e)) ∙ j.1)) (Some z) zs r.1
          (away z (omega (arith, places_here z zs))) (end_is_none x)
          (λ y has. let d : Some y ≢ Some x = away y (omega (arith, places_more y z zs)) in (d, d)),
    )

pub unchained : (n p n' p' : Option ℕ → Option ℕ) (x : ℕ)
    → ((u : Option ℕ) → n u ≢ Some x → n' u ≡ n u) → ((v : Option ℕ) → p v ≢ Some x → p' v ≡ p v)
    → n' (p (Some x)) ≡ n (Some x) → p' (n (Some x)) ≡ p (Some x)
    → (b : Option ℕ) (xs : List ℕ) → Chained n p b xs → b ≢ Some x → 0 < places_in xs x → places_in xs x ≤ 1
    → Chained n' p' b (removed xs x)
unchained n p n' p' x kn kp to back b [] r nb has once = absurd (omega arith)
unchained n p n' p' x kn kp to back b (y ∷ ys) r nb has once =
    elim (eqb_tells x y) [
      | inl t ↦
          subst (λ (zs : List ℕ). Chained n' p' b zs) (sym (removed_here x y ys t.0))
          (rest n p n' p' x kn kp to back b ys (ap (λ (w : ℕ). p (Some w)) t.1 ∙ r.0.1)
          (subst (λ (w : ℕ). Chained n p (Some w) ys) (sym t.1) r.1) (omega (arith, places_same x y ys t.1)))
      | inr t ↦
          let same : places_in (y ∷ ys) x ≡ places_in ys x = places_there x y ys t.1 in
          let ne : Some y ≢ Some x = others y x (λ e. t.1 (sym e)) in
          subst (λ (zs : List ℕ). Chained n' p' b zs) (sym (removed_there x y ys t.0)) (
            (kn b (λ e. ne (sym r.0.0 ∙ e)) ∙ r.0.0, kp (Some y) (λ e. nb (sym r.0.1 ∙ e)) ∙ r.0.1),
            unchained n p n' p' x kn kp to back (Some y) ys r.1 ne (omega arith) (omega arith),
          )
    ]

-- an item is put in ahead of a place

between : (n p n' p' : Option ℕ → Option ℕ) (x : ℕ) (a : Option ℕ)
    → n' (p a) ≡ Some x → p' (Some x) ≡ p a → n' (Some x) ≡ a → p' a ≡ Some x
    → (b v : Option ℕ) → p a ≡ b → a ≡ v → Joined n' p' b (Some x) × Joined n' p' (Some x) v
between n p n' p' x a into back out home b v at is = ((ap n' (sym at) ∙ into, back ∙ at), (out ∙ is, ap p' (sym is) ∙ home))

pub chained_in : (n p n' p' : Option ℕ → Option ℕ) (x : ℕ) (a : Option ℕ)
    → ((u : Option ℕ) → u ≢ Some x → n u ≢ a → n' u ≡ n u) → ((v : Option ℕ) → v ≢ Some x → v ≢ a → p' v ≡ p v)
    → n' (p a) ≡ Some x → p' (Some x) ≡ p a → n' (Some x) ≡ a → p' a ≡ Some x
    → (b : Option ℕ) (xs : List ℕ) → Chained n p b xs → b ≢ Some x → places_in xs x ≡ 0 → ((z : ℕ) → places_in xs z ≤ 1) → HasSpot xs a
    → Chained n' p' b (inserted xs x a)
chained_in n p n' p' x a kn kp into back out home b [] r nb none once spot =
    let e : a ≡ None = spot_of_none a spot in
    let j = between n p n' p' x a into back out home b None (ap p e ∙ r.1) e in
    (j.0, j.1)
chained_in n p n' p' x a kn kp into back out home b (y ∷ ys) r nb none once spot =
    let away : (z : ℕ) → 0 < places_in (y ∷ ys) z → Some z ≢ Some x = λ z has. others z x (λ e. differ (y ∷ ys) x z none has (sym e)) in
    let yx : Some y ≢ Some x = away y (omega (arith, places_here y ys)) in
    elim (link_tells a y) [
      | inl t ↦
          let alone : places_in ys y ≡ 0 = omega (arith, once y, places_here y ys) in
          let S : Option ℕ → Type 0 = λ u. u ≢ Some x in
          let T : Option ℕ → Type 0 = λ v. (v ≢ Some x) × (v ≢ a) in
          let j = between n p n' p' x a into back out home b (Some y) (ap p t.1 ∙ r.0.1) t.1 in
          subst (λ (zs : List ℕ). Chained n' p' b zs) (sym (inserted_here x y ys a t.0)) (
            j.0,
            (
              j.1,
              frame n p n' p' S T (λ u v k su tv. (kn u su (λ e. tv.1 (sym k.0 ∙ e)) ∙ k.0, kp v tv.0 tv.1 ∙ k.1)) (Some y) ys r.1
                  yx (end_is_none x, λ e. end_is_none y (e ∙ t.1))
                  (λ z has.
                  let zx : Some z ≢ Some x = away z (omega (arith, places_more z y ys)) in
                  let za : Some z ≢ a = λ e. others z y (λ f. differ ys y z alone has (sym f)) (e ∙ t.1) in
                  (zx, (zx, za))),
            ),
          )
      | inr t ↦
          let ne : Some y ≢ a = λ e. t.1 (sym e) in
          subst (λ (zs : List ℕ). Chained n' p' b zs) (sym (inserted_there x y ys a t.0)) (
            (kn b nb (λ e. ne (sym r.0.0 ∙ e)) ∙ r.0.0, kp (Some y) yx ne ∙ r.0.1),
            chained_in n p n' p' x a kn kp into back out home (Some y) ys r.1 yx (omega (arith, places_more x y ys))
                (λ z. omega (arith, once z, places_more z y ys)) (spot_further_on a y ys t.1 spot),
          )
    ]

-- the newest item

drop_one : (y : ℕ) → newest_dropped (y ∷ []) ≡ []
drop_one y = let e : length (y ∷ []) - 1 ≡ 0 = omega arith in ap (λ (n : ℕ). take n (y ∷ [])) e

drop_further_on : (y z : ℕ) (zs : List ℕ) → newest_dropped (y ∷ z ∷ zs) ≡ y ∷ newest_dropped (z ∷ zs)
drop_further_on y z zs =
    let e : length (y ∷ z ∷ zs) - 1 ≡ suc (length (z ∷ zs) - 1) = omega arith in
    ap (λ (n : ℕ). take n (y ∷ z ∷ zs)) e

pub newest : (n p : Option ℕ → Option ℕ) (b : Option ℕ) (xs : List ℕ) → Chained n p b xs → 0 < length xs → ((z : ℕ) → places_in xs z ≤ 1)
    → (z : ℕ) × ((p None ≡ Some z) × (0 < places_in xs z) × (removed xs z ≡ newest_dropped xs))
newest n p b [] r some once = absurd (omega arith)
newest n p b (y ∷ []) r some once = (y, (r.1.1, omega (arith, places_here y []), removed_here y y [] (eq-eqb y y refl) ∙ sym (drop_one y)))
newest n p b (y ∷ z ∷ zs) r some once =
    let more = newest n p (Some y) (z ∷ zs) r.1 (omega arith) (λ v. omega (arith, once v, places_more v y (z ∷ zs))) in
    let w : ℕ = more.0 in
    let alone : places_in (z ∷ zs) y ≡ 0 = omega (arith, once y, places_here y (z ∷ zs)) in
    let ne : w ≢ y = λ e. differ (z ∷ zs) y w alone more.1.1 (sym e) in (
      w,
      (
        more.1.0,
        omega (arith, more.1.1, places_more w y (z ∷ zs)),
        removed_there w y (z ∷ zs) (ne_eqb w y ne) ∙ ap (λ (vs : List ℕ). y ∷ vs) more.1.2 ∙ sym (drop_further_on y z zs),
      ),
    )
