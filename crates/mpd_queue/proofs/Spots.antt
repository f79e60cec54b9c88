-- Where an item stood, and that it goes back there.
use Rattle.std.proofs.Common.{◌≡◌, ◌≢◌, ℕ, ◌<◌, ◌≤◌, false, Option, Some, None, List, [], ◌∷◌, inl, inr, refl, sym, ap, subst, ◌∙◌, length, slice_set, arith}
use Rattle.std.proofs.lemmas.Bool.{eq-eqb}
use Rattle.std.proofs.lemmas.Bool.Decides.{eqb_tells}
use Rattle.std.proofs.lemmas.List.{set-set, set-get_or}
use Rattle.mpd_queue.specs.InOrder.{list_at, places_in, places, first_of, next_of, is_link_to, inserted, removed, pushed, with_inserted, with_removed, with_pushed, HasSpot}
use Rattle.mpd_queue.proofs.Places.{places_here, places_there, places_more, removed_one, link_tells, removed_here, removed_there, inserted_here, inserted_there, places_set, places_of_one, list_here}

longer_spot : (a : Option ℕ) (y : ℕ) (ys : List ℕ) → HasSpot ys a → HasSpot (y ∷ ys) a
longer_spot None y ys s = tt
longer_spot (Some z) y ys s = omega (arith, places_more z y ys)

pub first_spot : (ys : List ℕ) → HasSpot ys (first_of ys)
first_spot [] = tt
first_spot (y ∷ ys) = omega (arith, places_here y ys)

pub next_here : (x y : ℕ) (ys : List ℕ) → x ≡ y → next_of (y ∷ ys) x ≡ first_of ys
next_here x y ys e = rw (eq-eqb x y e) refl

pub next_there : (x y : ℕ) (ys : List ℕ) → x ≢ y → next_of (y ∷ ys) x ≡ next_of ys x
next_there x y ys ne =
    elim (eqb_tells x y) [
      | inl t ↦ absurd (ne t.1)
      | inr t ↦ rw t.0 refl
    ]

pub next_spot : (x : ℕ) (xs : List ℕ) → HasSpot xs (next_of xs x)
next_spot x [] = tt
next_spot x (y ∷ ys) =
    elim (eqb_tells x y) [
      | inl t ↦ subst (λ (a : Option ℕ). HasSpot (y ∷ ys) a) (sym (next_here x y ys t.1)) (longer_spot (first_of ys) y ys (first_spot ys))
      | inr t ↦ subst (λ (a : Option ℕ). HasSpot (y ∷ ys) a) (sym (next_there x y ys t.1)) (longer_spot (next_of ys x) y ys (next_spot x ys))
    ]

pub spot_stays : (x : ℕ) (xs : List ℕ) → HasSpot (removed xs x) (next_of xs x)
spot_stays x [] = tt
spot_stays x (y ∷ ys) =
    elim (eqb_tells x y) [
      | inl t ↦
          subst (λ (a : Option ℕ). HasSpot (removed (y ∷ ys) x) a) (sym (next_here x y ys t.1))
          (subst (λ (zs : List ℕ). HasSpot zs (first_of ys)) (sym (removed_here x y ys t.0)) (first_spot ys))
      | inr t ↦
          subst (λ (a : Option ℕ). HasSpot (removed (y ∷ ys) x) a) (sym (next_there x y ys t.1))
          (subst (λ (zs : List ℕ). HasSpot zs (next_of ys x)) (sym (removed_there x y ys t.0)) (longer_spot (next_of ys x) y (removed ys x) (spot_stays x ys)))
    ]

ahead_of_first : (x : ℕ) (ys : List ℕ) → inserted ys x (first_of ys) ≡ x ∷ ys
ahead_of_first x [] = refl
ahead_of_first x (y ∷ ys) = inserted_here x y ys (Some y) (eq-eqb y y refl)

pub put_back : (x : ℕ) (xs : List ℕ) → 0 < places_in xs x → ((z : ℕ) → places_in xs z ≤ 1) → inserted (removed xs x) x (next_of xs x) ≡ xs
put_back x [] has once = absurd (omega arith)
put_back x (y ∷ ys) has once =
    elim (eqb_tells x y) [
      | inl t ↦
          ap (λ (zs : List ℕ). inserted zs x (next_of (y ∷ ys) x)) (removed_here x y ys t.0)
          ∙ ap (inserted ys x) (next_here x y ys t.1)
          ∙ ahead_of_first x ys
          ∙ ap (λ (w : ℕ). w ∷ ys) t.1
      | inr t ↦
          let alone : places_in ys y ≡ 0 = omega (arith, once y, places_here y ys) in
          let other : next_of ys x ≢ Some y = λ e. let c : 0 < places_in ys y = subst (λ (a : Option ℕ). HasSpot ys a) e (next_spot x ys) in omega arith in
          let test : is_link_to (next_of ys x) y ≡ false = elim (link_tells (next_of ys x) y) [ inl h ↦ absurd (other h.1) | inr h ↦ h.0 ] in
          ap (λ (zs : List ℕ). inserted zs x (next_of (y ∷ ys) x)) (removed_there x y ys t.0)
          ∙ ap (inserted (y ∷ removed ys x) x) (next_there x y ys t.1)
          ∙ inserted_there x y (removed ys x) (next_of ys x) test
          ∙ ap (λ (zs : List ℕ). y ∷ zs) (put_back x ys (omega (arith, places_there x y ys t.1)) (λ z. omega (arith, once z, places_more z y ys)))
    ]

-- the same of one list among others

pub all_put_back : (ls : List (List ℕ)) (l x : ℕ) → l < length ls → 0 < places_in (list_at ls l) x → ((z : ℕ) → places ls z ≤ 1)
    → with_inserted (with_removed ls l x) l x (next_of (list_at ls l) x) ≡ ls
all_put_back ls l x lt has once =
    let xs : List ℕ = list_at ls l in
    ap (λ (zs : List ℕ). slice_set (with_removed ls l x) l (inserted zs x (next_of xs x))) (list_here ls l (removed xs x) lt)
    ∙ ap (slice_set (with_removed ls l x) l) (put_back x xs has (λ z. omega (arith, once z, places_of_one ls l z lt)))
    ∙ set-set ls l (removed xs x) xs
    ∙ set-get_or ls l []

pub is_gone : (ls : List (List ℕ)) (l x : ℕ) → l < length ls → 0 < places_in (list_at ls l) x → ((z : ℕ) → places ls z ≤ 1) → places (with_removed ls l x) x ≡ 0
is_gone ls l x lt has once = omega (arith, places_set ls l (removed (list_at ls l) x) x lt, removed_one x (list_at ls l) has, once x)

pub spot_among : (ls : List (List ℕ)) (l x : ℕ) → l < length ls → HasSpot (list_at (with_removed ls l x) l) (next_of (list_at ls l) x)
spot_among ls l x lt = subst (λ (zs : List ℕ). HasSpot zs (next_of (list_at ls l) x)) (sym (list_here ls l (removed (list_at ls l) x) lt)) (spot_stays x (list_at ls l))

at_the_end : (x : ℕ) (xs : List ℕ) → inserted xs x None ≡ pushed xs x
at_the_end x [] = refl
at_the_end x (y ∷ ys) = ap (λ (zs : List ℕ). y ∷ zs) (at_the_end x ys)

pub with_one_pushed : (ls : List (List ℕ)) (l x : ℕ) → with_inserted ls l x None ≡ with_pushed ls l x
with_one_pushed ls l x = ap (slice_set ls l) (at_the_end x (list_at ls l))
