-- One of several disjoint lists is changed, and the links with it.
use Rattle.std.proofs.Common.{◌≡◌, ◌≢◌, ℕ, ◌+◌, ◌<◌, ◌≤◌, Option, Some, None, List, [], ◌∷◌, inl, inr, sym, ap, subst, ◌∙◌, length, slice_set, length-set, arith}
use Rattle.std.proofs.lemmas.Bool.{cases_eq}
use Rattle.mpd_queue.specs.InOrder.{list_at, places_in, places, removed, inserted, with_inserted, with_removed, HasSpot}
use Rattle.mpd_queue.specs.Chained.{Chained, Linked, written}
use Rattle.mpd_queue.proofs.Places.{places_cons, places_here, places_there, places_removed, places_inserted, places_set, places_of_one, places_of_two, list_here, list_elsewhere}
use Rattle.mpd_queue.proofs.Chains.{end_is_none, others, frame, next_from_back, back_from_next, previous_in_list, unchained, chained_in}
use Rattle.mpd_queue.proofs.Written.{written_there, written_apart, written_end, written_beside}

-- the changed list has its chain, and each other keeps its own
all_chained : (N P : ℕ → Option ℕ → Option ℕ) (ls : List (List ℕ)) (l : ℕ) (ys : List ℕ) → l < length ls
    → Chained (N l) (P l) None ys
    → ((m : ℕ) → m < length ls → m ≢ l → Chained (N m) (P m) None (list_at ls m))
    → (m : ℕ) → m < length (slice_set ls l ys) → Chained (N m) (P m) None (list_at (slice_set ls l ys) m)
all_chained N P ls l ys lt here there m mt =
    let among : m < length ls = let e : length (slice_set ls l ys) ≡ length ls = length-set ls l ys in omega arith in
    elim (cases_eq m l) [
      | inl e ↦
          subst (λ (k : ℕ). Chained (N k) (P k) None (list_at (slice_set ls l ys) k)) (sym e)
          (subst (λ (zs : List ℕ). Chained (N l) (P l) None zs) (sym (list_here ls l ys lt)) here)
      | inr ne ↦ subst (λ (zs : List ℕ). Chained (N m) (P m) None zs) (sym (list_elsewhere ls l m ys ne)) (there m among ne)
    ]

-- an item is taken out

pub linked_without : (N P N' P' : ℕ → Option ℕ → Option ℕ) (ends cells : ℕ) (ls : List (List ℕ)) (l x : ℕ)
    → ((k m i : ℕ) → N k (Some i) ≡ N m (Some i)) → ((k m i : ℕ) → P k (Some i) ≡ P m (Some i))
    → Linked N P ends cells ls → l < length ls → 0 < places_in (list_at ls l) x
    → ((m : ℕ) (u : Option ℕ) → N' m u ≡ written N l (P l (Some x)) (N l (Some x)) m u)
    → ((m : ℕ) (u : Option ℕ) → P' m u ≡ written P l (N l (Some x)) (P l (Some x)) m u)
    → Linked N' P' ends cells (with_removed ls l x)
linked_without N P N' P' ends cells ls l x own_n own_p k lt has isn isp =
    let xs : List ℕ = list_at ls l in
    let x_once : places_in xs x ≤ 1 = omega (arith, k.once x, places_of_one ls l x lt) in
    let back : N l (P l (Some x)) ≡ Some x = next_from_back (N l) (P l) (Some x) None xs (k.chained l lt) has in
    let forth : P l (N l (Some x)) ≡ Some x = back_from_next (N l) (P l) x None xs (k.chained l lt) has in
    let kept_n : (m : ℕ) (u : Option ℕ) → N m u ≢ Some x → N' m u ≡ N m u = λ m u ne. isn m u ∙ written_beside N own_n l (P l (Some x)) (N l (Some x)) (Some x) back m u ne in
    let kept_p : (m : ℕ) (u : Option ℕ) → P m u ≢ Some x → P' m u ≡ P m u = λ m u ne. isp m u ∙ written_beside P own_p l (N l (Some x)) (P l (Some x)) (Some x) forth m u ne in
    let fewer : (z : ℕ) → places (with_removed ls l x) z ≤ places ls z = λ z. omega (arith, places_set ls l (removed xs x) z lt, places_removed z x xs) in
    let S : Option ℕ → Type 0 = λ u. u ≢ Some x in
    record {
      as_many = k.as_many ∙ sym (length-set ls l (removed xs x));
      few = k.few;
      inside = λ z h. k.inside z (omega (arith, fewer z));
      once = λ z. omega (arith, fewer z, k.once z);
      chained = all_chained N' P' ls l (removed xs x) lt
          (unchained (N l) (P l) (N' l) (P' l) x (kept_n l) (kept_p l)
          (isn l (P l (Some x)) ∙ written_there N l (P l (Some x)) (N l (Some x)))
          (isp l (N l (Some x)) ∙ written_there P l (N l (Some x)) (P l (Some x)))
          None xs (k.chained l lt) (end_is_none x) has x_once)
          (λ m mt ne.
          frame (N m) (P m) (N' m) (P' m) S S
          (λ u v j su sv. (kept_n m u (λ e. sv (sym j.0 ∙ e)) ∙ j.0, kept_p m v (λ e. su (sym j.1 ∙ e)) ∙ j.1))
          None (list_at ls m) (k.chained m mt) (end_is_none x) (end_is_none x)
          (λ y stands.
          let d : Some y ≢ Some x = others y x (λ e.
          let same : places_in (list_at ls m) x ≡ places_in (list_at ls m) y = ap (λ (w : ℕ). places_in (list_at ls m) w) (sym e) in
          omega (arith, places_of_two ls l m x lt mt ne, k.once x)) in
          (d, d)));
    }

-- an item is put in

pub linked_with : (N P N' P' : ℕ → Option ℕ → Option ℕ) (ends cells : ℕ) (ls : List (List ℕ)) (l x : ℕ) (a : Option ℕ)
    → ((k m i : ℕ) → N k (Some i) ≡ N m (Some i))
    → Linked N P ends cells ls → l < length ls → x < cells → places ls x ≡ 0 → HasSpot (list_at ls l) a
    → ((m : ℕ) (u : Option ℕ) → N' m u ≡ written (written N l (P l a) (Some x)) l (Some x) a m u)
    → ((m : ℕ) (u : Option ℕ) → P' m u ≡ written (written P l a (Some x)) l (Some x) (P l a) m u)
    → Linked N' P' ends cells (with_inserted ls l x a)
linked_with N P N' P' ends cells ls l x a own_n k lt cell free spot isn isp =
    let xs : List ℕ = list_at ls l in
    let none : (m : ℕ) → m < length ls → places_in (list_at ls m) x ≡ 0 = λ m mt. omega (arith, places_of_one ls m x mt) in
    let back : N l (P l a) ≡ a = next_from_back (N l) (P l) a None xs (k.chained l lt) spot in
    let ahead : HasSpot xs (P l a) = elim (previous_in_list (N l) (P l) a None xs (k.chained l lt) spot) [
      | inl e ↦ subst (λ (u : Option ℕ). HasSpot xs u) (sym e) tt
      | inr f ↦ subst (λ (u : Option ℕ). HasSpot xs u) (sym f.1.0) f.1.1
    ] in
    let first_n : (m : ℕ) (u : Option ℕ) → u ≢ Some x → N' m u ≡ written N l (P l a) (Some x) m u = λ m u ne.
    isn m u ∙ written_apart (written N l (P l a) (Some x)) l (Some x) a m u (λ e. ne (sym e)) in
    let first_p : (m : ℕ) (u : Option ℕ) → u ≢ Some x → P' m u ≡ written P l a (Some x) m u = λ m u ne.
    isp m u ∙ written_apart (written P l a (Some x)) l (Some x) (P l a) m u (λ e. ne (sym e)) in
    let is_other : (u : Option ℕ) → HasSpot xs u → u ≢ Some x = λ u s e. let has : 0 < places_in xs x = subst (λ (w : Option ℕ). HasSpot xs w) e s in omega (arith, none l lt) in
    let is_apart : (m : ℕ) → m < length ls → m ≢ l → (u : Option ℕ) → HasSpot xs u → (y : ℕ) → 0 < places_in (list_at ls m) y → u ≢ Some y = λ m mt ne u s y stands e.
    let has : 0 < places_in xs y = subst (λ (w : Option ℕ). HasSpot xs w) e s in omega (arith, places_of_two ls l m y lt mt ne, k.once y) in
    let total : (z : ℕ) → places (with_inserted ls l x a) z ≡ places ls z + places_in (x ∷ []) z = λ z.
    omega (arith, places_set ls l (inserted xs x a) z lt, places_inserted z x a xs, places_cons z x xs, places_cons z x []) in
    let S : (m : ℕ) → Option ℕ → Type 0 = λ m u. N' m u ≡ N m u in
    let T : (m : ℕ) → Option ℕ → Type 0 = λ m v. P' m v ≡ P m v in
    record {
      as_many = k.as_many ∙ sym (length-set ls l (inserted xs x a));
      few = k.few;
      inside = λ z h. elim (cases_eq z x) [
        | inl e ↦ subst (λ (w : ℕ). w < cells) (sym e) cell
        | inr ne ↦ k.inside z (omega (arith, total z, places_there z x [] ne))
      ];
      once = λ z. elim (cases_eq z x) [
        | inl e ↦ subst (λ (w : ℕ). places (with_inserted ls l x a) w ≤ 1) (sym e) (omega (arith, total x, places_here x []))
        | inr ne ↦ omega (arith, total z, places_there z x [] ne, k.once z)
      ];
      chained = all_chained N' P' ls l (inserted xs x a) lt
          (chained_in (N l) (P l) (N' l) (P' l) x a
          (λ u ux ua. first_n l u ux ∙ written_beside N own_n l (P l a) (Some x) a back l u ua)
          (λ v vx va. first_p l v vx ∙ written_apart P l a (Some x) l v (λ e. va (sym e)))
          (first_n l (P l a) (is_other (P l a) ahead) ∙ written_there N l (P l a) (Some x))
          (isp l (Some x) ∙ written_there (written P l a (Some x)) l (Some x) (P l a))
          (isn l (Some x) ∙ written_there (written N l (P l a) (Some x)) l (Some x) a)
          (first_p l a (is_other a spot) ∙ written_there P l a (Some x))
          None xs (k.chained l lt) (end_is_none x) (none l lt) (λ z. omega (arith, k.once z, places_of_one ls l z lt)) spot)
          (λ m mt ne.
          frame (N m) (P m) (N' m) (P' m) (S m) (T m) (λ u v j su tv. (su ∙ j.0, tv ∙ j.1))
          None (list_at ls m) (k.chained m mt)
          (first_n m None (end_is_none x) ∙ written_end N l (P l a) (Some x) m ne)
          (first_p m None (end_is_none x) ∙ written_end P l a (Some x) m ne)
          (λ y stands.
          let d : Some y ≢ Some x = others y x (λ e.
          let same : places_in (list_at ls m) x ≡ places_in (list_at ls m) y = ap (λ (w : ℕ). places_in (list_at ls m) w) (sym e) in
          omega (arith, none m mt)) in (
            first_n m (Some y) d ∙ written_apart N l (P l a) (Some x) m (Some y) (is_apart m mt ne (P l a) ahead y stands),
            first_p m (Some y) d ∙ written_apart P l a (Some x) m (Some y) (is_apart m mt ne a spot y stands),
          )));
    }
