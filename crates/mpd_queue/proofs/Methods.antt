-- What the methods of the lists rest on.
use Rattle.std.proofs.Common.{◌≡◌, ℕ, zero, suc, ◌-◌, ◌<◌, ◌≤◌, Bool, true, false, cond, Option, Some, None, List, [], ◌∷◌, ◌++◌, inl, inr, refl, sym, ap, subst, ◌∙◌, length, get_or, take, replicate, slice_set, vec_len, arith}
use Rattle.std.proofs.lemmas.List.{take_all}
use Rattle.mpd_queue.specs.InOrder.{list_at, places_in, places, first_of, next_of, with_inserted, with_removed, with_newest_dropped, HasSpot}
use Rattle.mpd_queue.specs.Chained.{Chained, Linked, written, HasCell}
use Rattle.mpd_queue.specs.Cells.{Holds, next_at, previous_at, next_in, previous_in, no_cell}
use Rattle.mpd_queue.specs.declared.links.Cell.{Cell}
use Rattle.mpd_queue.specs.declared.links.Ends.{Ends}
use Rattle.mpd_queue.specs.declared.links.Links.{Links}
use Rattle.mpd_queue.proofs.Places.{places_of_one, is_list}
use Rattle.mpd_queue.proofs.Chains.{next_first, next_is, previous_in_list, newest}
use Rattle.mpd_queue.proofs.Written.{written_again}
use Rattle.mpd_queue.proofs.AllLists.{linked_without, linked_with}

-- what is read

pub has_cell : (k : Links) (ls : List (List ℕ)) (l : ℕ) (a : Option ℕ) → Holds k ls → l < length ls → HasSpot (list_at ls l) a → HasCell (vec_len k.cells) a
has_cell k ls l None i lt s = tt
has_cell k ls l (Some y) i lt s = i.inside y (omega (arith, places_of_one ls l y lt))

pub previous_spot : (k : Links) (ls : List (List ℕ)) (l : ℕ) (a : Option ℕ) → Holds k ls → l < length ls → HasSpot (list_at ls l) a → HasSpot (list_at ls l) (previous_at k l a)
previous_spot k ls l a i lt s =
    elim (previous_in_list (next_at k l) (previous_at k l) a None (list_at ls l) (i.chained l lt) s) [
      | inl e ↦ subst (λ (u : Option ℕ). HasSpot (list_at ls l) u) (sym e) tt
      | inr w ↦ subst (λ (u : Option ℕ). HasSpot (list_at ls l) u) (sym w.1.0) w.1.1
    ]

pub next_read : (k : Links) (ls : List (List ℕ)) (l x : ℕ) → Holds k ls → 0 < places_in (list_at ls l) x → next_at k l (Some x) ≡ next_of (list_at ls l) x
next_read k ls l x i has = next_is (next_at k l) (previous_at k l) x None (list_at ls l) (i.chained l (is_list ls l x has)) has

pub first_read : (k : Links) (ls : List (List ℕ)) (l : ℕ) → Holds k ls → l < length ls → next_at k l None ≡ first_of (list_at ls l)
first_read k ls l i lt = next_first (next_at k l) (previous_at k l) None (list_at ls l) (i.chained l lt)

pub newest_read : (k : Links) (ls : List (List ℕ)) (l : ℕ) → Holds k ls → l < length ls → 0 < length (list_at ls l)
    → (z : ℕ) × ((previous_at k l None ≡ Some z) × (0 < places_in (list_at ls l) z) × (with_removed ls l z ≡ with_newest_dropped ls l))
newest_read k ls l i lt some =
    let w = newest (next_at k l) (previous_at k l) None (list_at ls l) (i.chained l lt) some (λ z. omega (arith, i.once z, places_of_one ls l z lt)) in
    (w.0, (w.1.0, w.1.1, ap (slice_set ls l) w.1.2))

-- after the writes

recounted : (N P : ℕ → Option ℕ → Option ℕ) (e c e' c' : ℕ) (ls ls' : List (List ℕ)) → e' ≡ e → c' ≡ c → ls' ≡ ls → Linked N P e c ls → Linked N P e' c' ls'
recounted N P e c e' c' ls ls' he hc hl k =
    subst (λ (z : ℕ). Linked N P z c' ls') (sym he)
    (subst (λ (z : ℕ). Linked N P e z ls') (sym hc) (subst (λ (z : List (List ℕ)). Linked N P e c z) (sym hl) k))

pub holds_with : (k k1 k2 k3 k4 : Links) (ls ls' : List (List ℕ)) (l x : ℕ) (a b here : Option ℕ)
    → Holds k ls → l < length ls → x < vec_len k.cells → places ls x ≡ 0 → HasSpot (list_at ls l) a → here ≡ Some x → b ≡ previous_at k l a
    → ((m : ℕ) (u : Option ℕ) → next_at k1 m u ≡ written (next_at k) l b here m u) → ((m : ℕ) (u : Option ℕ) → previous_at k1 m u ≡ previous_at k m u)
    → ((m : ℕ) (u : Option ℕ) → previous_at k2 m u ≡ written (previous_at k1) l a here m u) → ((m : ℕ) (u : Option ℕ) → next_at k2 m u ≡ next_at k1 m u)
    → ((m : ℕ) (u : Option ℕ) → next_at k3 m u ≡ written (next_at k2) l here a m u) → ((m : ℕ) (u : Option ℕ) → previous_at k3 m u ≡ previous_at k2 m u)
    → ((m : ℕ) (u : Option ℕ) → previous_at k4 m u ≡ written (previous_at k3) l here b m u) → ((m : ℕ) (u : Option ℕ) → next_at k4 m u ≡ next_at k3 m u)
    → vec_len k4.ends ≡ vec_len k.ends → vec_len k4.cells ≡ vec_len k.cells → ls' ≡ with_inserted ls l x a → Holds k4 ls'
holds_with k k1 k2 k3 k4 ls ls' l x a b here i lt cell free spot is at n1 p1 p2 n2 n3 p3 p4 n4 he hc hl =
    let N : ℕ → Option ℕ → Option ℕ = next_at k in
    let P : ℕ → Option ℕ → Option ℕ = previous_at k in
    recounted (next_at k4) (previous_at k4) (vec_len k.ends) (vec_len k.cells) (vec_len k4.ends) (vec_len k4.cells) (with_inserted ls l x a) ls' he hc hl
    (linked_with N P (next_at k4) (previous_at k4) (vec_len k.ends) (vec_len k.cells) ls l x a (λ _ _ _. refl) i lt cell free spot
    (λ m u.
    n4 m u ∙ n3 m u ∙ written_again (next_at k2) (written N l b here) l here a m u (n2 m u ∙ n1 m u)
    ∙ ap (λ (w : Option ℕ). written (written N l w here) l here a m u) at
    ∙ ap (λ (w : Option ℕ). written (written N l (P l a) w) l w a m u) is)
    (λ m u.
    p4 m u ∙ written_again (previous_at k3) (written P l a here) l here b m u (p3 m u ∙ p2 m u ∙ written_again (previous_at k1) P l a here m u (p1 m u))
    ∙ ap (λ (w : Option ℕ). written (written P l a here) l here w m u) at
    ∙ ap (λ (w : Option ℕ). written (written P l a w) l w (P l a) m u) is))

pub holds_without : (k k1 k2 : Links) (ls ls' : List (List ℕ)) (l x : ℕ) (a b here : Option ℕ)
    → Holds k ls → l < length ls → 0 < places_in (list_at ls l) x → here ≡ Some x → a ≡ next_at k l here → b ≡ previous_at k l here
    → ((m : ℕ) (u : Option ℕ) → next_at k1 m u ≡ written (next_at k) l b a m u) → ((m : ℕ) (u : Option ℕ) → previous_at k1 m u ≡ previous_at k m u)
    → ((m : ℕ) (u : Option ℕ) → previous_at k2 m u ≡ written (previous_at k1) l a b m u) → ((m : ℕ) (u : Option ℕ) → next_at k2 m u ≡ next_at k1 m u)
    → vec_len k2.ends ≡ vec_len k.ends → vec_len k2.cells ≡ vec_len k.cells → ls' ≡ with_removed ls l x → Holds k2 ls'
holds_without k k1 k2 ls ls' l x a b here i lt has is ea eb n1 p1 p2 n2 he hc hl =
    let N : ℕ → Option ℕ → Option ℕ = next_at k in
    let P : ℕ → Option ℕ → Option ℕ = previous_at k in
    let aa : a ≡ N l (Some x) = ea ∙ ap (N l) is in
    let bb : b ≡ P l (Some x) = eb ∙ ap (P l) is in
    recounted (next_at k2) (previous_at k2) (vec_len k.ends) (vec_len k.cells) (vec_len k2.ends) (vec_len k2.cells) (with_removed ls l x) ls' he hc hl
    (linked_without N P (next_at k2) (previous_at k2) (vec_len k.ends) (vec_len k.cells) ls l x (λ _ _ _. refl) (λ _ _ _. refl) i lt has
    (λ m u. n2 m u ∙ n1 m u ∙ ap (λ (w : Option ℕ). written N l w a m u) bb ∙ ap (λ (w : Option ℕ). written N l (P l (Some x)) w m u) aa)
    (λ m u.
    p2 m u ∙ written_again (previous_at k1) P l a b m u (p1 m u)
    ∙ ap (λ (w : Option ℕ). written P l w b m u) aa
    ∙ ap (λ (w : Option ℕ). written P l (N l (Some x)) w m u) bb))

all_same : {X : Type 0} → (x : X) (n i : ℕ) → get_or (replicate n x) i x ≡ x
all_same x zero i = refl
all_same x (suc n) zero = refl
all_same x (suc n) (suc i) = all_same x n i

-- more cells

padded : (xs : List Cell) (i n : ℕ) → get_or (xs ++ replicate n no_cell) i no_cell ≡ get_or xs i no_cell
padded [] i n = all_same no_cell n i
padded (x ∷ xs) zero n = refl
padded (x ∷ xs) (suc i) n = padded xs i n

abbrev pub cell_with : Option ℕ → Option ℕ → Cell
cell_with p n = record { previous = p; next = n }

cells_after : (xs ys : List Cell) (fill : Cell) (n : ℕ) (b : Bool) → fill ≡ no_cell → length xs ≤ n → ys ≡ cond b (take n xs ++ replicate (n - length xs) fill) xs → (i : ℕ) → get_or ys i no_cell ≡ get_or xs i no_cell
cells_after xs ys fill n true f le e i =
    ap (λ (zs : List Cell). get_or zs i no_cell) (e ∙ ap (λ (zs : List Cell). zs ++ replicate (n - length xs) fill) (take_all n xs le) ∙ ap (λ (w : Cell). xs ++ replicate (n - length xs) w) f)
    ∙ padded xs i (n - length xs)
cells_after xs ys fill n false f le e i = ap (λ (zs : List Cell). get_or zs i no_cell) e

next_same : (xs ys : List Cell) (es : List Ends) → ((i : ℕ) → get_or ys i no_cell ≡ get_or xs i no_cell) → (m : ℕ) (u : Option ℕ) → next_in ys es m u ≡ next_in xs es m u
next_same xs ys es h m None = refl
next_same xs ys es h m (Some i) = ap (λ (c : Cell). c.next) (h i)

previous_same : (xs ys : List Cell) (es : List Ends) → ((i : ℕ) → get_or ys i no_cell ≡ get_or xs i no_cell) → (m : ℕ) (u : Option ℕ) → previous_in ys es m u ≡ previous_in xs es m u
previous_same xs ys es h m None = refl
previous_same xs ys es h m (Some i) = ap (λ (c : Cell). c.previous) (h i)

same_links : (N P N' P' : ℕ → Option ℕ → Option ℕ) (e c c' : ℕ) (ls : List (List ℕ)) → ((m : ℕ) (u : Option ℕ) → N' m u ≡ N m u) → ((m : ℕ) (u : Option ℕ) → P' m u ≡ P m u)
    → c ≤ c' → c' ≤ 4294967295 → Linked N P e c ls → Linked N' P' e c' ls
same_links N P N' P' e c c' ls hn hp le few k = record {
  as_many = k.as_many;
  few = few;
  inside = λ z h. let lt : z < c = k.inside z h in omega arith;
  once = k.once;
  chained = λ m mt.
      subst (λ (f : Option ℕ → Option ℕ). Chained f (P' m) None (list_at ls m)) (sym (λ i u. hn m u i))
      (subst (λ (f : Option ℕ → Option ℕ). Chained (N m) f None (list_at ls m)) (sym (λ i u. hp m u i)) (k.chained m mt));
}

either : (b : Bool) (n a c : ℕ) → a ≤ n → n ≤ 4294967295 → c ≡ cond b n a → (a ≤ c) × (c ≤ 4294967295)
either true n a c le most e = (omega arith, omega arith)
either false n a c le most e = (omega arith, omega arith)

pub holds_grown : (xs ys : List Cell) (p q : Option ℕ) (es : List Ends) (e a c n : ℕ) (b : Bool) (ls : List (List ℕ)) → p ≡ None → q ≡ None → length xs ≡ a → a ≤ n → n ≤ 4294967295
    → ys ≡ cond b (take n xs ++ replicate (n - a) (cell_with p q)) xs → c ≡ cond b n a
    → Linked (next_in xs es) (previous_in xs es) e a ls → Linked (next_in ys es) (previous_in ys es) e c ls
holds_grown xs ys p q es e a c n b ls hp hq len le most items is k =
    let fill : cell_with p q ≡ no_cell = ap (λ (w : Option ℕ). cell_with w q) hp ∙ ap (λ (w : Option ℕ). cell_with None w) hq in
    let h : (i : ℕ) → get_or ys i no_cell ≡ get_or xs i no_cell = cells_after xs ys (cell_with p q) n b fill (omega arith) (items ∙ ap (λ (w : ℕ). cond b (take n xs ++ replicate (n - w) (cell_with p q)) xs) (sym len)) in
    let c_is : (a ≤ c) × (c ≤ 4294967295) = either b n a c le most is in
    same_links (next_in xs es) (previous_in xs es) (next_in ys es) (previous_in ys es) e a c ls (next_same xs ys es h) (previous_same xs ys es h) c_is.0 c_is.1 k

-- a copy

pub holds_copied : (xs ys : List Cell) (es fs : List Ends) (a b c d : ℕ) (ls ms : List (List ℕ)) → ys ≡ xs → fs ≡ es → c ≡ a → d ≡ b → ms ≡ ls
    → Linked (next_in xs es) (previous_in xs es) a b ls → Linked (next_in ys fs) (previous_in ys fs) c d ms
holds_copied xs ys es fs a b c d ls ms hx he ha hb hl k =
    subst (λ (zs : List Cell). Linked (next_in zs fs) (previous_in zs fs) c d ms) (sym hx)
    (subst (λ (zs : List Ends). Linked (next_in xs zs) (previous_in xs zs) c d ms) (sym he)
    (recounted (next_in xs es) (previous_in xs es) a b c d ls ms ha hb hl k))
