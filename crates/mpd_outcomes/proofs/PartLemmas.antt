-- Parts of keys by their numbers, and what is kept by these.
use Rattle.std.proofs.Common.{◌≡◌, ◌⊎◌, inl, inr, ℕ, suc, ◌+◌, ◌-◌, ◌<◌, ◌≤◌, Bool, true, false, List, [], ◌∷◌, ◌++◌, length, take, drop, Option, Some, None, refl, sym, ap, ◌∙◌, subst, arith, append_assoc, append-nil, zero, eqb}
use Rattle.std.specs.Prelude.{ℤ, Vec, is_some, if◌then◌else◌, ◌==◌, IfSome}
use Rattle.std.specs.declared.alloc.Global.{Global}
use Rattle.std.specs.Bool.{Decides}
use Rattle.std.specs.Borrow.{Bor}
use Rattle.std.specs.Option.{option_copied}
use Rattle.std.specs.Map.{lookup, KeepsOthers}
use Rattle.std.specs.Ordering.{int_eq}
use Rattle.std.specs.Cmp.Lexicographic.{pointwise}
use Rattle.std.proofs.lemmas.List.{take-append-drop, length-drop}
use Rattle.std.proofs.lemmas.Slice.Eq.{slice_eq-Decides}
use Rattle.std.proofs.lemmas.Bool.Decides.{Decides-int_eq, Decides-eqb}
use Rattle.mpd_outcomes.specs.declared.table.Found.{Found}
use Rattle.mpd_outcomes.specs.Parts.{at_items, number_of, part_size, before_others, numbers_of, IsNumbering, HasMoreParts, StoreView, found_by, found_in, AllBelow, IsNumbered}
use Rattle.mpd_outcomes.specs.Table.{KeepsAPartIn, KeepsLessIn}

-- ---- a map by lists, whose elements are told apart by eq

module _ {A : Type 0} (eq : A → A → Bool) (decides : (a b : A) → Decides (eq a b) (a ≡ b)) where
  lists : (xs ys : List A) → Decides (pointwise eq xs ys) (xs ≡ ys)
  lists xs ys = slice_eq-Decides decides xs ys (pointwise eq xs ys) refl

  -- after something is put at a list, that stands there, and elsewhere what stood there
  pub put_at : {X : Type 0} (old new : List (Vec A Global × X)) (k : Vec A Global) (v : X) → lookup (λ (x : Vec A Global). pointwise eq k.items x.items) new ≡ Some v
      → KeepsOthers (λ (x y : Vec A Global). pointwise eq x.items y.items) (λ (x : Vec A Global). pointwise eq k.items x.items) old new
      → (q : List A) → ((k.items ≡ q) × (at_items eq q new ≡ Some v)) ⊎ (at_items eq q new ≡ at_items eq q old)
  unfolding KeepsOthers
  put_at old new k v is others q = by (pointwise eq k.items q) refl
    where
      same : pointwise eq k.items q ≡ true → k.items ≡ q
      same e = (lists k.items q).0 e

      key_test : (x y : Vec A Global) → pointwise eq q x.items ≡ true → pointwise eq q y.items ≡ pointwise eq x.items y.items
      key_test x y e = ap (λ (xs : List A). pointwise eq xs y.items) ((lists q x.items).0 e)

      clash : true ≡ false → ⊥
      clash e = cc

      apart : pointwise eq k.items q ≡ false → (x : Vec A Global) → pointwise eq k.items x.items ≡ true → (b : Bool) → pointwise eq q x.items ≡ b → b ≡ false
      apart other x this false e = refl
      apart other x this true e = absurd (clash (sym ((lists k.items q).1 ((lists k.items x.items).0 this ∙ sym ((lists q x.items).0 e))) ∙ other))

      by : (b : Bool) → pointwise eq k.items q ≡ b → ((k.items ≡ q) × (at_items eq q new ≡ Some v)) ⊎ (at_items eq q new ≡ at_items eq q old)
      by true e = inl (same e, subst (λ (xs : List A). at_items eq xs new ≡ Some v) (same e) is)
      by false e = inr (others (λ (x : Vec A Global). pointwise eq q x.items) key_test (λ x this. apart e x this (pointwise eq q x.items) refl))

-- ---- parts

some_is : {A : Type 0} {x y : A} → Some x ≡ Some y → x ≡ y
some_is e = cc

none_is : {A : Type 0} {x : A} → None ≡ Some x → ⊥
none_is e = cc

pub nothing_new : (parts : List (Vec ℤ Global × ℕ)) → HasMoreParts parts parts
nothing_new parts = record { stay = λ p n e. e; fresh = λ p n e. inl e; more = omega arith }

pub no_parts : IsNumbering []
no_parts = record { below = λ p n e. absurd (none_is e); apart = λ p q n e f. absurd (none_is e) }

pub more_and_more : (a b c : List (Vec ℤ Global × ℕ)) → HasMoreParts a b → HasMoreParts b c → HasMoreParts a c
more_and_more a b c one two = record {
  stay = λ p n e. two.stay p n (one.stay p n e);
  fresh = λ p n e. elim (two.fresh p n e) [
    | inl there ↦ one.fresh p n there
    | inr new ↦ inr (let more = one.more in omega (arith, new, more))
  ];
  more = let x = one.more in let y = two.more in omega (arith, x, y);
}

-- a part that is new, by the number of how many there were
module _ (old new : List (Vec ℤ Global × ℕ)) (k : Vec ℤ Global) (is : number_of new k.items ≡ Some (length old)) (others : KeepsOthers (λ (x y : Vec ℤ Global). pointwise int_eq x.items y.items) (λ (x : Vec ℤ Global). pointwise int_eq k.items x.items) old new) (absent : number_of old k.items ≡ None) (long : length new ≡ length old + 1) where
  at : (q : List ℤ) → ((k.items ≡ q) × (number_of new q ≡ Some (length old))) ⊎ (number_of new q ≡ number_of old q)
  at q = put_at int_eq Decides-int_eq old new k (length old) is others q

  pub added_more : HasMoreParts old new
  added_more = record {
    stay = λ p n e. elim (at p) [
      | inl here ↦ absurd (none_is (sym absent ∙ ap (number_of old) here.0 ∙ e))
      | inr there ↦ there ∙ e
    ];
    fresh = λ p n e. elim (at p) [
      | inl here ↦ inr (let same = some_is (sym here.1 ∙ e) in omega (arith, same))
      | inr there ↦ inl (sym there ∙ e)
    ];
    more = omega (arith, long);
  }

  pub added_numbering : IsNumbering old → IsNumbering new
  added_numbering h = record {
    below = λ p n e. elim (at p) [
      | inl here ↦ (let same = some_is (sym here.1 ∙ e) in omega (arith, same, long))
      | inr there ↦ (let low = h.below p n (sym there ∙ e) in omega (arith, low, long))
    ];
    apart = λ p q n e f. elim (at p) [
      | inl here ↦ elim (at q) [
        | inl too ↦ sym here.0 ∙ too.0
        | inr there ↦ absurd (let low = h.below q n (sym there ∙ f) in let same = some_is (sym here.1 ∙ e) in omega (arith, low, same))
      ]
      | inr there ↦ elim (at q) [
        | inl here ↦ absurd (let low = h.below p n (sym there ∙ e) in let same = some_is (sym here.1 ∙ f) in omega (arith, low, same))
        | inr too ↦ h.apart p q n (sym there ∙ e) (sym too ∙ f)
      ]
    ];
  }

-- the same, as a map tells it
module _ (old new : List (Vec ℤ Global × ℕ)) (k : Vec ℤ Global) (v : ℕ) (was : Option ℕ) (absent : number_of old k.items ≡ None) (value : v ≡ length old) (was_is : was ≡ number_of old k.items) (long : length new ≡ length old + (if is_some was then 0 else 1))
    (is : number_of new k.items ≡ Some v) (others : KeepsOthers (λ (x y : Vec ℤ Global). pointwise int_eq x.items y.items) (λ (x : Vec ℤ Global). pointwise int_eq k.items x.items) old new) where
  longer : length new ≡ length old + 1
  longer = subst (λ (o : Option ℕ). length new ≡ length old + (if is_some o then 0 else 1)) (was_is ∙ absent) long

  pub put_more : HasMoreParts old new
  put_more = added_more old new k (is ∙ ap (λ (n : ℕ). Some n) value) others absent longer

  pub put_numbering : IsNumbering old → IsNumbering new
  put_numbering h = added_numbering old new k (is ∙ ap (λ (n : ℕ). Some n) value) others absent longer h

-- ---- keys by the numbers of their parts

-- some numbers are those of the first parts of a key, after which so much is left
abbrev pub IsRead : List (Vec ℤ Global × ℕ) → List ℤ → ℕ → List ℤ → List ℕ → Type 0
IsRead parts key n left ns = (ms : List ℕ) → numbers_of parts n left ≡ Some ms → numbers_of parts (length key) key ≡ Some (ns ++ ms)

pub read_none : (parts : List (Vec ℤ Global × ℕ)) (key : List ℤ) → IsRead parts key (length key) key []
read_none parts key ms e = e

nothing_left : (parts : List (Vec ℤ Global × ℕ)) (n : ℕ) → numbers_of parts n [] ≡ Some []
nothing_left parts zero = refl
nothing_left parts (suc n) = refl

pub read_all : (parts : List (Vec ℤ Global × ℕ)) (key : List ℤ) (n : ℕ) (ns : List ℕ) → IsRead parts key n [] ns → numbers_of parts (length key) key ≡ Some ns
read_all parts key n ns h = h [] (nothing_left parts n) ∙ ap (λ (ms : List ℕ). Some ms) (append-nil ns)

both_there : (o : Option ℕ) (p : Option (List ℕ)) (n : ℕ) (ns : List ℕ) → o ≡ Some n → p ≡ Some ns → before_others o p ≡ Some (n ∷ ns)
both_there o p n ns e f = (λ i. before_others (e i) (f i))

pub read_more : (parts : List (Vec ℤ Global × ℕ)) (key : List ℤ) (n : ℕ) (left : List ℤ) (ns : List ℕ) (number : ℕ) → 0 < length left → number_of parts (take (part_size left) left) ≡ Some number
    → IsRead parts key (suc n) left ns → IsRead parts key n (drop (part_size left) left) (ns ++ number ∷ [])
read_more parts key n [] ns number some is h ms e = absurd (omega (arith, some))
read_more parts key n (w ∷ ws) ns number some is h ms e = h (number ∷ ms) (both_there _ _ number ms is e) ∙ ap (λ (xs : List ℕ). Some xs) (sym (append_assoc ns (number ∷ []) ms))

pub is_left : (xs : List ℤ) (b : Bool) → b ≡ (length xs == 0) → b ≡ false → 0 < length xs
is_left [] b is e = absurd (clash (sym is ∙ e))
  where
    clash : true ≡ false → ⊥
    clash z = cc
is_left (x ∷ xs) b is e = omega arith

pub is_not_left : (xs : List ℤ) (b : Bool) → b ≡ (length xs == 0) → b ≡ true → length xs ≡ 0
is_not_left xs b is e = (Decides-eqb (length xs) 0).0 (sym is ∙ e)

no_words : (xs : List ℤ) → length xs ≡ 0 → xs ≡ []
no_words [] e = refl
no_words (x ∷ xs) e = absurd (omega (arith, e))

-- where nothing is left, all parts are read
pub read_empty : (parts : List (Vec ℤ Global × ℕ)) (key left : List ℤ) (n : ℕ) (ns now : List ℕ) → length left ≡ 0 → now ≡ ns → IsRead parts key n left ns → numbers_of parts (length key) key ≡ Some now
read_empty parts key left n ns now end same h = read_all parts key n ns (subst (λ (xs : List ℤ). IsRead parts key n xs ns) (no_words left end) h) ∙ ap (λ (xs : List ℕ). Some xs) (sym same)

-- a part more is read
pub read_step : (parts : List (Vec ℤ Global × ℕ)) (key left part rest : List ℤ) (total done number : ℕ) (ns now : List ℕ) → done < total → 0 < length left → part ≡ take (part_size left) left → rest ≡ drop (part_size left) left
    → number_of parts part ≡ Some number → now ≡ ns ++ number ∷ [] → IsRead parts key (total - done) left ns → IsRead parts key (total - (done + 1)) rest now
read_step parts key left part rest total done number ns now lt some part_is rest_is is now_is h =
    let k : total - done ≡ suc (total - (done + 1)) = omega (arith, lt) in
    let more = read_more parts key (total - (done + 1)) left ns number some (ap (number_of parts) (sym part_is) ∙ is) (subst (λ (n : ℕ). IsRead parts key n left ns) k h) in
    subst (λ (xs : List ℤ). IsRead parts key (total - (done + 1)) xs now) (sym rest_is) (subst (IsRead parts key (total - (done + 1)) (drop (part_size left) left)) (sym now_is) more)

pub fewer : (left rest : List ℤ) (total done : ℕ) → 0 < length left → rest ≡ drop (part_size left) left → length left ≤ total - done → length rest ≤ total - (done + 1)
fewer [] rest total done some is few = absurd (omega (arith, some))
fewer (w ∷ ws) rest total done some is few = let e = ap (λ (xs : List ℤ). length xs) is ∙ length-drop (part_size (w ∷ ws)) (w ∷ ws) in omega (arith, e, few)

-- what numbers tell of the words
abbrev Parted : List (Vec ℤ Global × ℕ) → List ℤ → List ℕ → Type 0
Parted parts xs [] = xs ≡ []
Parted parts xs (n ∷ ns) = (number_of parts (take (part_size xs) xs) ≡ Some n) × Parted parts (drop (part_size xs) xs) ns

parts_of : (parts : List (Vec ℤ Global × ℕ)) (o : Option ℕ) (p : Option (List ℕ)) (ns : List ℕ) → before_others o p ≡ Some ns → (n : ℕ) × (ms : List ℕ) × (o ≡ Some n) × (p ≡ Some ms) × (ns ≡ n ∷ ms)
parts_of parts None p ns e = absurd (none_is e)
parts_of parts (Some n) None ns e = absurd (none_is e)
parts_of parts (Some n) (Some ms) ns e = (n, ms, refl, refl, sym (some_is e))

parted : (parts : List (Vec ℤ Global × ℕ)) (n : ℕ) (xs : List ℤ) (ns : List ℕ) → numbers_of parts n xs ≡ Some ns → Parted parts xs ns
parted parts zero [] ns e = subst (Parted parts []) (some_is e) refl
parted parts zero (w ∷ ws) ns e = absurd (none_is e)
parted parts (suc n) [] ns e = subst (Parted parts []) (some_is e) refl
parted parts (suc n) (w ∷ ws) ns e =
    let h = parts_of parts (number_of parts (take (part_size (w ∷ ws)) (w ∷ ws))) (numbers_of parts n (drop (part_size (w ∷ ws)) (w ∷ ws))) ns e in
    subst (Parted parts (w ∷ ws)) (sym h.4) (h.2, parted parts n (drop (part_size (w ∷ ws)) (w ∷ ws)) h.1 h.3)

same_parts : (parts : List (Vec ℤ Global × ℕ)) → IsNumbering parts → (xs ys : List ℤ) (ns : List ℕ) → Parted parts xs ns → Parted parts ys ns → xs ≡ ys
same_parts parts h xs ys [] e f = e ∙ sym f
same_parts parts h xs ys (n ∷ ns) e f =
    sym (take-append-drop (part_size xs) xs)
    ∙ (λ i. h.apart _ _ n e.0 f.0 i ++ same_parts parts h (drop (part_size xs) xs) (drop (part_size ys) ys) ns e.1 f.1 i)
    ∙ take-append-drop (part_size ys) ys

-- keys with the same numbers are the same
pub same_keys : (parts : List (Vec ℤ Global × ℕ)) → IsNumbering parts → (n m : ℕ) (xs ys : List ℤ) (ns : List ℕ) → numbers_of parts n xs ≡ Some ns → numbers_of parts m ys ≡ Some ns → xs ≡ ys
same_keys parts h n m xs ys ns e f = same_parts parts h xs ys ns (parted parts n xs ns e) (parted parts m ys ns f)

all_below : (parts : List (Vec ℤ Global × ℕ)) → IsNumbering parts → (xs : List ℤ) (ns : List ℕ) → Parted parts xs ns → AllBelow (length parts) ns
all_below parts h xs [] e = tt
all_below parts h xs (n ∷ ns) e = (h.below (take (part_size xs) xs) n e.0, all_below parts h (drop (part_size xs) xs) ns e.1)

pub numbers_below : (parts : List (Vec ℤ Global × ℕ)) → IsNumbering parts → (n : ℕ) (xs : List ℤ) (ns : List ℕ) → numbers_of parts n xs ≡ Some ns → AllBelow (length parts) ns
numbers_below parts h n xs ns e = all_below parts h xs ns (parted parts n xs ns e)

below_more : (n m : ℕ) (ns : List ℕ) → n ≤ m → AllBelow n ns → AllBelow m ns
below_more n m [] le h = tt
below_more n m (x ∷ ns) le h = (let low = h.0 in omega (arith, low, le), below_more n m ns le h.1)

-- numbers that were there are of parts that were there
old_number : (old new : List (Vec ℤ Global × ℕ)) → HasMoreParts old new → (p : List ℤ) (n : ℕ) → number_of new p ≡ Some n → n < length old → number_of old p ≡ Some n
old_number old new more p n e low = elim (more.fresh p n e) [
  | inl there ↦ there
  | inr new_one ↦ absurd (omega (arith, low, new_one))
]

pub old_numbers : (old new : List (Vec ℤ Global × ℕ)) → HasMoreParts old new → (n : ℕ) (xs : List ℤ) (ns : List ℕ) → numbers_of new n xs ≡ Some ns → AllBelow (length old) ns → numbers_of old n xs ≡ Some ns
old_numbers old new more zero [] ns e low = e
old_numbers old new more zero (w ∷ ws) ns e low = absurd (none_is e)
old_numbers old new more (suc n) [] ns e low = e
old_numbers old new more (suc n) (w ∷ ws) ns e low =
    let h = parts_of new (number_of new (take (part_size (w ∷ ws)) (w ∷ ws))) (numbers_of new n (drop (part_size (w ∷ ws)) (w ∷ ws))) ns e in
    let under = subst (AllBelow (length old)) h.4 low in
    both_there _ _ h.0 h.1 (old_number old new more (take (part_size (w ∷ ws)) (w ∷ ws)) h.0 h.2 under.0) (old_numbers old new more n (drop (part_size (w ∷ ws)) (w ∷ ws)) h.1 h.3 under.1) ∙ ap (λ (xs : List ℕ). Some xs) (sym h.4)

-- ---- what is kept

pub nothing_numbered : (parts : List (Vec ℤ Global × ℕ)) → IsNumbered parts []
nothing_numbered parts ns f e = absurd (none_is e)

pub numbered_more : (old new : List (Vec ℤ Global × ℕ)) (kept : List (Vec ℕ Global × Found)) → HasMoreParts old new → IsNumbered old kept → IsNumbered new kept
numbered_more old new kept more h ns f e = below_more (length old) (length new) ns more.more (h ns f e)

found_old : (s t : StoreView) → s.kept ≡ t.kept → HasMoreParts s.parts t.parts → IsNumbered s.parts s.kept → (q : List ℤ) (f : Found) (o : Option (List ℕ)) → numbers_of t.parts (length q) q ≡ o → found_by t.kept o ≡ Some f → found_in s q ≡ Some f
found_old s t same more h q f None is at = absurd (none_is at)
found_old s t same more h q f (Some ns) is at =
    let there = ap (at_items eqb ns) same ∙ at in
    ap (found_by s.kept) (old_numbers s.parts t.parts more (length q) q ns is (h ns f there)) ∙ there

-- with more parts and nothing else, no more is kept
pub parts_keep_less : (s t : StoreView) → s.kept ≡ t.kept → HasMoreParts s.parts t.parts → IsNumbered s.parts s.kept → KeepsLessIn s t
parts_keep_less s t same more h q f at = found_old s t same more h q f (numbers_of t.parts (length q) q) refl at

-- something is put by numbers
module _ (parts : List (Vec ℤ Global × ℕ)) (old new : List (Vec ℕ Global × Found)) (k : Vec ℕ Global) (found : Found) (is : at_items eqb k.items new ≡ Some found) (others : KeepsOthers (λ (x y : Vec ℕ Global). pointwise eqb x.items y.items) (λ (x : Vec ℕ Global). pointwise eqb k.items x.items) old new) where
  found_at_numbers : (q : List ℕ) → ((k.items ≡ q) × (at_items eqb q new ≡ Some found)) ⊎ (at_items eqb q new ≡ at_items eqb q old)
  found_at_numbers q = put_at eqb Decides-eqb old new k found is others q

  pub put_numbered : AllBelow (length parts) k.items → IsNumbered parts old → IsNumbered parts new
  put_numbered low h ns f e = elim (found_at_numbers ns) [
    | inl here ↦ subst (AllBelow (length parts)) here.0 low
    | inr there ↦ h ns f (sym there ∙ e)
  ]

  by_numbers : IsNumbering parts → (key : List ℤ) → numbers_of parts (length key) key ≡ Some k.items → (q : List ℤ) (f : Found) (o : Option (List ℕ)) → numbers_of parts (length q) q ≡ o → found_by new o ≡ Some f
      → (found_by old o ≡ Some f) ⊎ ((key ≡ q) × (f ≡ found))
  by_numbers h key numbers q f None e at = absurd (none_is at)
  by_numbers h key numbers q f (Some ns) e at = elim (found_at_numbers ns) [
    | inl here ↦ inr (same_keys parts h (length key) (length q) key q ns (numbers ∙ ap (λ (xs : List ℕ). Some xs) here.0) e, some_is (sym at ∙ here.1))
    | inr there ↦ inl (sym there ∙ at)
  ]

  pub put_keeps : IsNumbering parts → (key : List ℤ) → numbers_of parts (length key) key ≡ Some k.items → KeepsAPartIn (record { parts = parts; kept = old }) key found (record { parts = parts; kept = new })
  put_keeps h key numbers q f at = by_numbers h key numbers q f (numbers_of parts (length q) q) refl at

pub less_then_part : (a b c : StoreView) (key : List ℤ) (found : Found) → KeepsLessIn a b → KeepsAPartIn b key found c → KeepsAPartIn a key found c
less_then_part a b c key found less part q f at = elim (part q f at) [
  | inl there ↦ inl (less q f there)
  | inr now ↦ inr now
]

pub if_copied : {X : Type 0} (o : Option (Bor X)) (x : Option X) → option_copied o ≡ x → IfSome o (λ b. x ≡ Some b.now)
if_copied None x e = tt
if_copied (Some b) x e = sym e

pub found_by_numbers : (s : StoreView) (key : List ℤ) (ns : List ℕ) → numbers_of s.parts (length key) key ≡ Some ns → found_in s key ≡ at_items eqb ns s.kept
found_by_numbers s key ns e = ap (found_by s.kept) e

pub same_keeps : (s t : StoreView) (key : List ℤ) (found : Found) → s ≡ t → KeepsAPartIn s key found t
same_keeps s t key found e q f at = inl (ap (λ (v : StoreView). found_in v q) e ∙ at)
