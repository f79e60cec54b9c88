-- In how many places an item stands, in a list and in all of them, before and after a change.
use Rattle.std.proofs.Common.{◌≡◌, ◌≢◌, ℕ, zero, suc, ◌+◌, ◌<◌, ◌≤◌, Bool, true, false, cond, eqb, Option, Some, None, List, [], ◌∷◌, ◌⊎◌, inl, inr, refl, sym, ap, ◌∙◌, length, slice_set, length-set, get_or-set_same, get_or-set_other, zero-add, arith}
use Rattle.std.proofs.lemmas.Bool.{eq-eqb, ne_eqb}
use Rattle.std.proofs.lemmas.Bool.Decides.{eqb_tells}
use Rattle.std.proofs.lemmas.List.Sums.{sum_by-cons, sum_by-set, get_or-le-sum_by}
use Rattle.mpd_queue.specs.InOrder.{list_at, places_in, places, is_link_to, inserted, removed}

-- one list

pub places_cons : (z x : ℕ) (xs : List ℕ) → places_in (x ∷ xs) z ≡ cond (eqb z x) 1 0 + places_in xs z
places_cons z x xs = sum_by-cons (λ (y : ℕ). cond (eqb z y) 1 0) x xs

pub places_here : (x : ℕ) (xs : List ℕ) → places_in (x ∷ xs) x ≡ 1 + places_in xs x
places_here x xs = places_cons x x xs ∙ ap (λ (b : Bool). cond b 1 0 + places_in xs x) (eq-eqb x x refl)

pub places_same : (x y : ℕ) (ys : List ℕ) → x ≡ y → places_in (y ∷ ys) x ≡ 1 + places_in ys x
places_same x y ys e = ap (λ (w : ℕ). places_in (w ∷ ys) x) (sym e) ∙ places_here x ys

pub places_there : (z x : ℕ) (xs : List ℕ) → z ≢ x → places_in (x ∷ xs) z ≡ places_in xs z
places_there z x xs ne = places_cons z x xs ∙ ap (λ (b : Bool). cond b 1 0 + places_in xs z) (ne_eqb z x ne) ∙ zero-add (places_in xs z)

pub places_more : (z x : ℕ) (xs : List ℕ) → places_in xs z ≤ places_in (x ∷ xs) z
places_more z x xs = omega (arith, places_cons z x xs)

-- what stands in a list is another item than what doesn't
pub differ : (xs : List ℕ) (x y : ℕ) → places_in xs x ≡ 0 → 0 < places_in xs y → x ≢ y
differ xs x y none has e = let same : places_in xs x ≡ places_in xs y = ap (λ (w : ℕ). places_in xs w) e in omega arith

-- a change at the first item, and further on

pub removed_here : (x y : ℕ) (ys : List ℕ) → eqb x y ≡ true → removed (y ∷ ys) x ≡ ys
removed_here x y ys t = ap (λ (b : Bool). cond b ys (y ∷ removed ys x)) t

pub removed_there : (x y : ℕ) (ys : List ℕ) → eqb x y ≡ false → removed (y ∷ ys) x ≡ y ∷ removed ys x
removed_there x y ys t = ap (λ (b : Bool). cond b ys (y ∷ removed ys x)) t

pub inserted_here : (x y : ℕ) (ys : List ℕ) (a : Option ℕ) → is_link_to a y ≡ true → inserted (y ∷ ys) x a ≡ x ∷ y ∷ ys
inserted_here x y ys a t = ap (λ (b : Bool). cond b (x ∷ y ∷ ys) (y ∷ inserted ys x a)) t

pub inserted_there : (x y : ℕ) (ys : List ℕ) (a : Option ℕ) → is_link_to a y ≡ false → inserted (y ∷ ys) x a ≡ y ∷ inserted ys x a
inserted_there x y ys a t = ap (λ (b : Bool). cond b (x ∷ y ∷ ys) (y ∷ inserted ys x a)) t

pub link_tells : (a : Option ℕ) (y : ℕ) → ((is_link_to a y ≡ true) × (a ≡ Some y)) ⊎ ((is_link_to a y ≡ false) × (a ≢ Some y))
link_tells None y = inr (refl, λ e. cc)
link_tells (Some z) y = elim (eqb_tells z y) [ inl t ↦ inl (t.0, ap Some t.1) | inr t ↦ inr (t.0, λ e. t.1 (cc)) ]

pub places_removed : (z x : ℕ) (xs : List ℕ) → places_in (removed xs x) z ≤ places_in xs z
places_removed z x [] = omega arith
places_removed z x (y ∷ ys) =
    elim (eqb_tells x y) [
      | inl t ↦
          let e : places_in (removed (y ∷ ys) x) z ≡ places_in ys z = ap (λ (ws : List ℕ). places_in ws z) (removed_here x y ys t.0) in
          omega (arith, places_more z y ys)
      | inr t ↦
          let e : places_in (removed (y ∷ ys) x) z ≡ places_in (y ∷ removed ys x) z = ap (λ (ws : List ℕ). places_in ws z) (removed_there x y ys t.0) in
          omega (arith, places_cons z y ys, places_cons z y (removed ys x), places_removed z x ys)
    ]

pub removed_one : (x : ℕ) (xs : List ℕ) → 0 < places_in xs x → places_in (removed xs x) x + 1 ≡ places_in xs x
removed_one x [] has = absurd (omega arith)
removed_one x (y ∷ ys) has =
    elim (eqb_tells x y) [
      | inl t ↦
          let e : places_in (removed (y ∷ ys) x) x ≡ places_in ys x = ap (λ (ws : List ℕ). places_in ws x) (removed_here x y ys t.0) in
          omega (arith, places_same x y ys t.1)
      | inr t ↦
          let e : places_in (removed (y ∷ ys) x) x ≡ places_in (y ∷ removed ys x) x = ap (λ (ws : List ℕ). places_in ws x) (removed_there x y ys t.0) in
          let here : places_in (y ∷ ys) x ≡ places_in ys x = places_there x y ys t.1 in
          omega (arith, places_there x y (removed ys x) t.1, removed_one x ys (omega arith))
    ]

pub places_inserted : (z x : ℕ) (a : Option ℕ) (xs : List ℕ) → places_in (inserted xs x a) z ≡ places_in (x ∷ xs) z
places_inserted z x a [] = refl
places_inserted z x a (y ∷ ys) =
    elim (link_tells a y) [
      | inl t ↦ ap (λ (ws : List ℕ). places_in ws z) (inserted_here x y ys a t.0)
      | inr t ↦
          let e : places_in (inserted (y ∷ ys) x a) z ≡ places_in (y ∷ inserted ys x a) z = ap (λ (ws : List ℕ). places_in ws z) (inserted_there x y ys a t.0) in
          omega (
            arith,
            places_inserted z x a ys,
            places_cons z y (inserted ys x a),
            places_cons z x ys,
            places_cons z x (y ∷ ys),
            places_cons z y ys,
          )
    ]

-- all lists

pub places_set : (ls : List (List ℕ)) (l : ℕ) (ys : List ℕ) (z : ℕ) → l < length ls → places (slice_set ls l ys) z + places_in (list_at ls l) z ≡ places ls z + places_in ys z
places_set ls l ys z lt = sum_by-set (λ (xs : List ℕ). places_in xs z) ls l ys [] lt

pub places_of_one : (ls : List (List ℕ)) (l z : ℕ) → l < length ls → places_in (list_at ls l) z ≤ places ls z
places_of_one ls l z lt = get_or-le-sum_by (λ (xs : List ℕ). places_in xs z) ls l [] lt

pub list_here : (ls : List (List ℕ)) (l : ℕ) (ys : List ℕ) → l < length ls → list_at (slice_set ls l ys) l ≡ ys
list_here ls l ys lt = get_or-set_same ls l ys [] lt

pub list_elsewhere : (ls : List (List ℕ)) (l m : ℕ) (ys : List ℕ) → m ≢ l → list_at (slice_set ls l ys) m ≡ list_at ls m
list_elsewhere ls l m ys ne = get_or-set_other ls l m ys [] ne

pub places_of_two : (ls : List (List ℕ)) (l m z : ℕ) → l < length ls → m < length ls → m ≢ l → places_in (list_at ls l) z + places_in (list_at ls m) z ≤ places ls z
places_of_two ls l m z lt mt ne =
    let other : places_in (list_at (slice_set ls l []) m) z ≤ places (slice_set ls l []) z = places_of_one (slice_set ls l []) m z (omega (arith, length-set ls l [])) in
    let same : places_in (list_at (slice_set ls l []) m) z ≡ places_in (list_at ls m) z = ap (λ (xs : List ℕ). places_in xs z) (list_elsewhere ls l m [] ne) in
    omega (arith, places_set ls l [] z lt)

-- a list in which something stands is one of the lists
pub is_list : (ls : List (List ℕ)) (l z : ℕ) → 0 < places_in (list_at ls l) z → l < length ls
is_list [] l z has = absurd (omega arith)
is_list (xs ∷ ls) zero z has = omega arith
is_list (xs ∷ ls) (suc l) z has = let lt : l < length ls = is_list ls l z has in omega arith
