-- Each step keeps the rule of the deque.
use Rattle.std.proofs.Common.{◌≡◌, ◌≢◌, ℕ, zero, suc, ◌+◌, ◌<◌, ◌≤◌, true, false, true≢false, List, [], ◌∷◌, ◌++◌, length, set, sym, refl, ◌∙◌, subst, ⊎_elim, arith, length-append}
use mathlib.Core.Option.{some, some-ne-none}
use Rattle.std.proofs.Math.Option.{some_inj}
use lib.ListN.{get_elem?}
use Rattle.crossbeam_deque.specs.Tasks.{Pushes, Takes, Forks, Merges}
use Rattle.crossbeam_deque.proofs.Lists.{at_set, at_snoc}
use Rattle.std.proofs.lemmas.List.{length-set}
use Rattle.mpd_pool.specs.declared.deque.Hand.{Hand}
use Rattle.mpd_pool.specs.Numbers.{hand, Rising, Below, Knows, Numbered}

single : (x v : Hand) (port : ℕ) → get_elem? (x ∷ []) port ≡ some v → x ≡ v
single x v zero e = some_inj.0 e
single x v (suc j) e = absurd (some-ne-none v (sym e))

there : (l : List Hand) (j : ℕ) (u : Hand) → get_elem? l j ≡ some u → j < length l
there [] j u e = absurd (some-ne-none u (sym e))
there (x ∷ xs) zero u e = omega arith
there (x ∷ xs) (suc j) u e = omega (arith, there xs j u e)

rising_le : (xs : List ℕ) (low high : ℕ) → Rising low xs high → low ≤ high
rising_le [] low high r = r
rising_le (x ∷ xs) low high r = omega (arith, r.0, rising_le xs (x + 1) high r.1)

rising_low : (xs : List ℕ) (low lower high : ℕ) → lower ≤ low → Rising low xs high → Rising lower xs high
rising_low [] low lower high le r = omega arith
rising_low (x ∷ xs) low lower high le r = (omega (arith, r.0), r.1)

rising_drop : (xs items : List ℕ) (low high : ℕ) → Rising low (xs ++ items) high → Rising low items high
rising_drop [] items low high r = r
rising_drop (x ∷ xs) items low high r = rising_low items (x + 1) low high (omega (arith, r.0)) (rising_drop xs items (x + 1) high r.1)

rising_all : (xs items : List ℕ) (low high : ℕ) → Rising low (xs ++ items) high → Below high xs
rising_all [] items low high r = tt
rising_all (x ∷ xs) items low high r = (omega (arith, rising_le (xs ++ items) (x + 1) high r.1), rising_all xs items (x + 1) high r.1)

rising_snoc : (items : List ℕ) (low next : ℕ) → Rising low items next → Rising low (items ++ next ∷ []) (next + 1)
rising_snoc [] low next r = (r, omega arith)
rising_snoc (x ∷ xs) low next r = (r.0, rising_snoc xs (x + 1) next r.1)

pub starts : Numbered [] (hand true true 0 ∷ [])
starts = (0, omega arith, λ port v at. subst (λ (u : Hand). Knows 0 1 u) (single (hand true true 0) v port at) ((λ _. refl), λ _. (refl, refl)))

pub pushes : (port : ℕ) (v : Hand) (n : ℕ) → v.pushes ≡ true → v.next ≡ n → Pushes Numbered port v (n ∷ []) (λ w. w ≡ hand true true (v.next + 1))
pushes port v n may is items views h at =
    let w : Hand = hand true true (v.next + 1) in
    let mine = h.2 port v at in
    let alone : length views ≡ 1 = (mine.1 may).0 in
    let next : v.next ≡ h.0 = mine.0 (mine.1 may).1 in
    let len : length (set views port w) ≡ 1 = length-set views port w ∙ alone in
    let items' : Rising 0 (items ++ n ∷ []) (v.next + 1) = rw (← is, next) (rising_snoc items 0 h.0 h.1) in (
      w,
      (
        v.next + 1,
        items',
        λ j u e. ⊎_elim (λ (x : (j ≡ port) × (w ≡ u)). subst (λ (y : Hand). Knows (v.next + 1) (length (set views port w)) y) x.1 ((λ _. refl), λ _. (len, refl)))
            (λ (x : (j ≢ port) × (get_elem? views j ≡ some u)). absurd (x.0 (omega (arith, there views j u x.1, there views port v at, alone)))) (at_set views port j w u e),
      ),
      refl,
    )

pub takes : (port : ℕ) (v : Hand) → v.live ≡ true → Takes Numbered port v 1 (λ xs w. (w ≡ v) × Below v.next xs)
takes port v live xs items views _ _ h at =
    let mine = h.2 port v at in
    let next : v.next ≡ h.0 = mine.0 live in
    let len : length (set views port v) ≡ length views = length-set views port v in (
      v,
      (
        h.0,
        rising_drop xs items 0 h.0 h.1,
        λ j u e. rw len (⊎_elim (λ (x : (j ≡ port) × (v ≡ u)). subst (λ (y : Hand). Knows h.0 (length views) y) x.1 mine)
            (λ (x : (j ≢ port) × (get_elem? views j ≡ some u)). h.2 j u x.1) (at_set views port j v u e)),
      ),
      (refl, rw next (rising_all xs items 0 h.0 h.1)),
    )

pub forks : (port : ℕ) (v : Hand) → v.live ≡ true → Forks Numbered port v (hand false true v.next) (hand false true v.next)
forks port v live items views h at =
    let w : Hand = hand false true v.next in
    let mine = h.2 port v at in
    let next : v.next ≡ h.0 = mine.0 live in
    let vs : List Hand = set views port w in
    let len : length (vs ++ w ∷ []) ≡ length views + 1 = omega (arith, length-append vs (w ∷ []), length-set views port w) in
    let Ok : Hand → Type 0 = λ y. Knows h.0 (length (vs ++ w ∷ [])) y in
    let new : Ok w = ((λ _. next), λ p. absurd (true≢false (sym p))) in (
      h.0,
      h.1,
      λ j u e. ⊎_elim
          (λ (x : get_elem? vs j ≡ some u). ⊎_elim (λ (y : (j ≡ port) × (w ≡ u)). subst Ok y.1 new)
          (λ (y : (j ≢ port) × (get_elem? views j ≡ some u)).
          ((h.2 j u y.1).0, λ p. absurd (y.0 (omega (arith, there views j u y.1, there views port v at, ((h.2 j u y.1).1 p).0))))) (at_set views port j w u x))
          (λ (x : w ≡ u). subst Ok x new) (at_snoc vs w u j e),
    )

pub merges : (port : ℕ) (v : Hand) (other : ℕ) (u : Hand) → v.live ≡ true → Merges Numbered port v other u (hand false true v.next) (hand false false 0)
merges port v other u live items views h at two at' =
    let w : Hand = hand false true v.next in
    let gone : Hand = hand false false 0 in
    let next : v.next ≡ h.0 = (h.2 port v at).0 live in
    let vs : List Hand = set views port w in
    let len : length (set vs other gone) ≡ length views = length-set vs other gone ∙ length-set views port w in
    let Ok : Hand → Type 0 = λ y. Knows h.0 (length (set vs other gone)) y in (
      h.0,
      h.1,
      λ j y e. ⊎_elim (λ (x : (j ≡ other) × (gone ≡ y)). subst Ok x.1 ((λ p. absurd (true≢false (sym p))), λ p. absurd (true≢false (sym p))))
          (λ (x : (j ≢ other) × (get_elem? vs j ≡ some y)). ⊎_elim (λ (z : (j ≡ port) × (w ≡ y)). subst Ok z.1 ((λ _. next), λ p. absurd (true≢false (sym p))))
          (λ (z : (j ≢ port) × (get_elem? views j ≡ some y)). rw len (h.2 j y z.1)) (at_set views port j w y x.1))
          (at_set vs other j gone y e),
    )
