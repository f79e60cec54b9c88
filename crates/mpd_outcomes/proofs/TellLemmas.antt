-- What is told of leaves is put together from what is told of their parts.
use Rattle.std.proofs.Common.{◌≡◌, ◌⊎◌, ℕ, zero, suc, ◌<◌, ◌≤◌, ◌+◌, ◌-◌, nat_lt, Bool, true, false, cond, ◌&&◌, ◌||◌, Some, List, [], ◌∷◌, ◌++◌, map, length, replicate, take, set, get_or, slice_get, inl, inr, refl, sym, ap, ◌∙◌, arith}
use Rattle.std.specs.Prelude.{◌^◌}
use Rattle.std.specs.List.{filter, list_all}
use Rattle.std.proofs.lemmas.Bool.{and_parts, ltb-false, le-ltb}
use Rattle.std.proofs.lemmas.List.{length-append, length-take}
use Rattle.std.proofs.lemmas.List.Elements.{filter-append}
use Rattle.std.proofs.lemmas.List.Folds.{list_any-append, list_all-append}
use Rattle.std.proofs.lemmas.Option.{slice_get_within}
use Rattle.mpd_policy.specs.declared.ending.Ending.{Ending}
use Rattle.mpd_explore.specs.declared.report.SearchLeaf.{SearchLeaf}
use Rattle.mpd_outcomes.specs.declared.report.Count.{Count}
use Rattle.mpd_outcomes.specs.declared.report.Count.TheVariants.{Exactly, More}
use Rattle.mpd_explore.specs.Ends.{ending_eq, same_end, times, has_end}
use Rattle.mpd_outcomes.specs.Outcomes.{counted, plus}
use Rattle.mpd_outcomes.specs.Sums.{added, one_at, IsWay, count_at, TellsCounts}
use Rattle.mpd_outcomes.specs.Front.{put}
use Rattle.mpd_explore.proofs.FirstLemmas.{ending_same, ending_each, AllApart, one_place}

-- ---- counts

by_test : (n : ℕ) (b : Bool) → nat_lt n (2 ^ 64) ≡ b → counted n ≡ cond b (Exactly n) More
by_test n b e = ap (λ (t : Bool). cond t (Exactly n) More) e

over : (n m : ℕ) → 2 ^ 64 ≤ n → nat_lt (n + m) (2 ^ 64) ≡ false
over n m le = le-ltb (n + m) (2 ^ 64) (omega (arith, le))

pub plus_counted : (n m : ℕ) → plus (counted n) (counted m) ≡ counted (n + m)
plus_counted n m = by (nat_lt n (2 ^ 64)) refl (nat_lt m (2 ^ 64)) refl
  where
    by : (a : Bool) → nat_lt n (2 ^ 64) ≡ a → (b : Bool) → nat_lt m (2 ^ 64) ≡ b → plus (counted n) (counted m) ≡ counted (n + m)
    by true e true f = λ j. plus (by_test n true e j) (by_test m true f j)
    by true e false f =
        (λ j. plus (by_test n true e j) (by_test m false f j))
        ∙ sym (by_test (n + m) false (let le : 2 ^ 64 ≤ m = ltb-false m (2 ^ 64) f in le-ltb (n + m) (2 ^ 64) (omega (arith, le))))
    by false e b f =
        (λ j. plus (by_test n false e j) (counted m))
        ∙ sym (by_test (n + m) false (over n m (ltb-false n (2 ^ 64) e)))

-- what stands at a place of a list
pub read_at : {A : Type 0} (xs : List A) (i : ℕ) (x : A) → i < length xs → x ≡ get_or xs i x → slice_get xs i ≡ Some x
read_at [] i x lt e = absurd (omega (arith, lt))
read_at {A = A} (y ∷ ys) zero x lt e = ap (λ (z : A). Some z) (sym e)
read_at (y ∷ ys) (suc i) x lt e = read_at ys i x (omega (arith, lt)) e

pub ends_more : (ls : List SearchLeaf) (e : Ending) (n : ℕ) (x : SearchLeaf) → slice_get ls n ≡ Some x → has_end (take n ls) e ≡ false → ending_eq x.ending e ≡ false → has_end (take (suc n) ls) e ≡ false
ends_more [] e n x at was un = absurd (cc)
ends_more (l ∷ ls) e zero x at was un = let is : l ≡ x = cc in (λ j. ending_eq (ap (λ (z : SearchLeaf). z.ending) is j) e || false) ∙ (λ j. un j || false)
ends_more (l ∷ ls) e (suc n) x at was un =
    let parts = none_of (ending_eq l.ending e) (has_end (take n ls) e) was in
    λ j. parts.0 j || ends_more ls e n x at parts.1 un j
  where
    none_of : (a b : Bool) → (a || b) ≡ false → (a ≡ false) × (b ≡ false)
    none_of true b f = absurd (cc)
    none_of false b f = (refl, f)

pub all_taken : {A : Type 0} (xs : List A) (n : ℕ) → length xs ≤ n → take n xs ≡ xs
all_taken [] zero le = refl
all_taken [] (suc n) le = refl
all_taken (x ∷ xs) zero le = absurd (omega (arith, le))
all_taken (x ∷ xs) (suc n) le = ap (λ ys. x ∷ ys) (all_taken xs n (omega (arith, le)))

-- a count of 0 is of none
none_counted : (n : ℕ) → Exactly 0 ≡ counted n → n ≡ 0
none_counted n e = by (nat_lt n (2 ^ 64)) refl
  where
    by : (a : Bool) → nat_lt n (2 ^ 64) ≡ a → n ≡ 0
    by true f = let g : Exactly 0 ≡ Exactly n = e ∙ by_test n true f in cc
    by false f = let g : Exactly 0 ≡ More = e ∙ by_test n false f in absurd (cc)

-- ---- how many end so

times_joined : (xs ys : List SearchLeaf) (l : SearchLeaf) → times (xs ++ ys) l ≡ times xs l + times ys l
times_joined xs ys l = ap (λ (ls : List SearchLeaf). length ls) (filter-append (same_end l) xs ys) ∙ length-append (filter (same_end l) xs) (filter (same_end l) ys)

times_put : (cs : List ℕ) (xs : List SearchLeaf) (l : SearchLeaf) → times (map (put cs) xs) l ≡ times xs l
times_put cs [] l = refl
times_put cs (x ∷ xs) l = one (same_end l x) (times_put cs xs l)
  where
    one : (b : Bool) → times (map (put cs) xs) l ≡ times xs l → length (cond b (put cs x ∷ filter (same_end l) (map (put cs) xs)) (filter (same_end l) (map (put cs) xs))) ≡ length (cond b (x ∷ filter (same_end l) xs) (filter (same_end l) xs))
    one true e = ap suc e
    one false e = e

-- ---- counts by numbers

pub added_none : (cs : List Count) → added cs [] ≡ cs
added_none [] = refl
added_none (c ∷ cs) = refl

-- one count more
added_set : (cs ds : List Count) (n : ℕ) (d e : Count) → n < length cs → n < length ds → set (added cs (take n ds)) n (plus (get_or (added cs (take n ds)) n d) (get_or ds n e)) ≡ added cs (take (suc n) ds)
added_set [] ds n d e lt le = absurd (omega (arith, lt))
added_set (c ∷ cs) [] n d e lt le = absurd (omega (arith, le))
added_set (c ∷ cs) (x ∷ ds) zero d e lt le = ap (λ (l : List Count). plus c x ∷ l) (sym (added_none cs))
added_set (c ∷ cs) (x ∷ ds) (suc n) d e lt le = ap (λ (l : List Count). plus c x ∷ l) (added_set cs ds n d e (omega (arith, lt)) (omega (arith, le)))

added_pushed : (cs ds : List Count) (n : ℕ) (e : Count) → length cs ≤ n → n < length ds → added cs (take n ds) ++ get_or ds n e ∷ [] ≡ added cs (take (suc n) ds)
added_pushed cs [] n e le lt = absurd (omega (arith, lt))
added_pushed [] (x ∷ ds) zero e le lt = refl
added_pushed [] (x ∷ ds) (suc n) e le lt = ap (λ (l : List Count). x ∷ l) (added_pushed [] ds n e (omega arith) (omega (arith, lt)))
added_pushed (c ∷ cs) (x ∷ ds) zero e le lt = absurd (omega (arith, le))
added_pushed (c ∷ cs) (x ∷ ds) (suc n) e le lt = ap (λ (l : List Count). plus c x ∷ l) (added_pushed cs ds n e (omega (arith, le)) (omega (arith, lt)))

-- the count of a number was written, or one was added
pub count_set : (cs ds counts : List Count) (n : ℕ) (x was e : Count) → counts ≡ added cs (take n ds) → n < length cs → n < length ds → was ≡ get_or counts n was → x ≡ plus was (get_or ds n e) → set counts n x ≡ added cs (take (suc n) ds)
count_set cs ds counts n x was e i lt le was_is x_is =
    ap (set counts n) (x_is ∙ ap (λ (z : Count). plus z (get_or ds n e)) was_is) ∙ (λ j. set (i j) n (plus (get_or (i j) n was) (get_or ds n e))) ∙ added_set cs ds n was e lt le

pub count_pushed : (cs ds counts : List Count) (n : ℕ) (e : Count) → counts ≡ added cs (take n ds) → length cs ≤ n → n < length ds → counts ++ get_or ds n e ∷ [] ≡ added cs (take (suc n) ds)
count_pushed cs ds counts n e i le lt = ap (λ (l : List Count). l ++ get_or ds n e ∷ []) i ∙ added_pushed cs ds n e le lt

pub added_long : (cs ds : List Count) (n : ℕ) → n ≤ length ds → (length (added cs (take n ds)) ≤ n) → length cs ≤ n
added_long [] ds n le h = omega arith
added_long (c ∷ cs) ds zero le h = absurd (omega (arith, h))
added_long (c ∷ cs) [] (suc n) le h = absurd (omega (arith, le))
added_long (c ∷ cs) (x ∷ ds) (suc n) le h = let l = added_long cs ds n (omega (arith, le)) (omega (arith, h)) in omega (arith, l)

pub added_short : (cs ds : List Count) (n : ℕ) → n < length ds → n < length (added cs (take n ds)) → n < length cs
added_short [] ds n le h = let l = length-take n ds in absurd (omega (arith, l, h, le))
added_short (c ∷ cs) ds zero le h = omega arith
added_short (c ∷ cs) [] (suc n) le h = absurd (omega (arith, le))
added_short (c ∷ cs) (x ∷ ds) (suc n) le h = let l = added_short cs ds n (omega (arith, le)) (omega (arith, h)) in omega (arith, l)

added_at : (cs ds : List Count) (k a b : ℕ) → count_at cs k ≡ counted a → count_at ds k ≡ counted b → count_at (added cs ds) k ≡ counted (a + b)
added_at [] ds k a b e f = f ∙ ap counted (let z = none_counted a e in omega (arith, z))
added_at (c ∷ cs) [] k a b e f = e ∙ ap counted (let z = none_counted b f in omega (arith, z))
added_at (c ∷ cs) (d ∷ ds) zero a b e f = (λ j. plus (e j) (f j)) ∙ plus_counted a b
added_at (c ∷ cs) (d ∷ ds) (suc k) a b e f = added_at cs ds k a b e f

added_length : (cs ds : List Count) (n : ℕ) → length cs ≤ n → length ds ≤ n → length (added cs ds) ≤ n
added_length [] ds n h k = k
added_length (c ∷ cs) [] n h k = h
added_length (c ∷ cs) (d ∷ ds) zero h k = absurd (omega (arith, h))
added_length (c ∷ cs) (d ∷ ds) (suc n) h k = let l = added_length cs ds n (omega (arith, h)) (omega (arith, k)) in omega (arith, l)

count_beyond : (cs : List Count) (k : ℕ) → length cs ≤ k → count_at cs k ≡ Exactly 0
count_beyond [] k h = refl
count_beyond (c ∷ cs) zero h = absurd (omega (arith, h))
count_beyond (c ∷ cs) (suc k) h = count_beyond cs k (omega (arith, h))

one_here : (k : ℕ) → count_at (one_at k) k ≡ Exactly 1
one_here zero = refl
one_here (suc k) = one_here k

one_elsewhere : (k j : ℕ) → (j ≡ k → ⊥) → count_at (one_at k) j ≡ Exactly 0
one_elsewhere zero zero ne = absurd (ne refl)
one_elsewhere zero (suc j) ne = refl
one_elsewhere (suc k) zero ne = refl
one_elsewhere (suc k) (suc j) ne = one_elsewhere k j (λ e. ne (ap suc e))

one_length : (k : ℕ) → length (one_at k) ≡ suc k
one_length zero = refl
one_length (suc k) = ap suc (one_length k)

-- ---- what is told

pub tells_none : (ways : List SearchLeaf) → TellsCounts ways [] (Exactly 0) []
tells_none ways = record { few = omega arith; counts = λ k l e. refl; within = refl; total_is = refl }

pub tells_joined : (ways : List SearchLeaf) (cs ds : List Count) (c d : Count) (xs ys : List SearchLeaf) → TellsCounts ways cs c xs → TellsCounts ways ds d ys → TellsCounts ways (added cs ds) (plus c d) (xs ++ ys)
tells_joined ways cs ds c d xs ys h k = record {
  few = added_length cs ds (length ways) h.few k.few;
  counts = λ n l e. added_at cs ds n (times xs l) (times ys l) (h.counts n l e) (k.counts n l e) ∙ ap counted (sym (times_joined xs ys l));
  within = list_all-append (λ (m : SearchLeaf). has_end ways m.ending) xs ys ∙ (λ j. h.within j && k.within j);
  total_is = (λ j. plus (h.total_is j) (k.total_is j)) ∙ plus_counted (length xs) (length ys) ∙ ap counted (sym (length-append xs ys));
}

within_put : (ways : List SearchLeaf) (ps : List ℕ) (xs : List SearchLeaf) → list_all (λ (m : SearchLeaf). has_end ways m.ending) (map (put ps) xs) ≡ list_all (λ (m : SearchLeaf). has_end ways m.ending) xs
within_put ways ps [] = refl
within_put ways ps (x ∷ xs) = ap (λ (b : Bool). has_end ways x.ending && b) (within_put ways ps xs)

length_put : (ps : List ℕ) (xs : List SearchLeaf) → length (map (put ps) xs) ≡ length xs
length_put ps [] = refl
length_put ps (x ∷ xs) = ap suc (length_put ps xs)

pub tells_put : (ways : List SearchLeaf) (cs : List Count) (c : Count) (ps : List ℕ) (xs : List SearchLeaf) → TellsCounts ways cs c xs → TellsCounts ways cs c (map (put ps) xs)
tells_put ways cs c ps xs h = record {
  few = h.few;
  counts = λ k l e. h.counts k l e ∙ ap counted (sym (times_put ps xs l));
  within = within_put ways ps xs ∙ h.within;
  total_is = h.total_is ∙ ap counted (sym (length_put ps xs));
}

pub any_at : (ls : List SearchLeaf) (e : Ending) (k : ℕ) (l : SearchLeaf) → slice_get ls k ≡ Some l → ending_eq l.ending e ≡ true → has_end ls e ≡ true
any_at [] e k l is at = absurd (cc)
any_at (x ∷ xs) e zero l is at = let here : x ≡ l = cc in (λ j. ending_eq (ap (λ (z : SearchLeaf). z.ending) here j) e || has_end xs e) ∙ (λ j. at j || has_end xs e)
any_at (x ∷ xs) e (suc k) l is at = ap (λ (b : Bool). ending_eq x.ending e || b) (any_at xs e k l is at) ∙ or_true (ending_eq x.ending e)
  where
    or_true : (a : Bool) → (a || true) ≡ true
    or_true true = refl
    or_true false = refl

pub tells_one : (ways : List SearchLeaf) → AllApart ways → (leaf : SearchLeaf) (k : ℕ) → IsWay ways leaf.ending k → TellsCounts ways (one_at k) (Exactly 1) (leaf ∷ [])
tells_one ways apart leaf k way = record {
  few = (let within = slice_get_within ways k way.0 way.1 in let long = one_length k in omega (arith, within, long));
  counts = λ j l e. at j l e (same_end l leaf) refl;
  within = (λ j. any_at ways leaf.ending k way.0 way.1 way.2 j && true);
  total_is = refl;
}
  where
    at : (j : ℕ) (l : SearchLeaf) → slice_get ways j ≡ Some l → (b : Bool) → same_end l leaf ≡ b → count_at (one_at k) j ≡ counted (times (leaf ∷ []) l)
    at j l e true is =
        let ends : l.ending ≡ leaf.ending = ending_same l.ending leaf.ending is in
        let same : same_end l way.0 ≡ true = ap (λ (z : Ending). ending_eq l.ending z) (ending_same way.0.ending leaf.ending way.2 ∙ sym ends) ∙ ending_each l.ending in
        let here : j ≡ k = one_place ways apart j k l way.0 e way.1 same in
        ap (λ (n : ℕ). count_at (one_at k) n) here ∙ one_here k ∙ sym (ap (λ (b : Bool). counted (length (cond b (leaf ∷ []) []))) is)
    at j l e false is =
        one_elsewhere k j (λ here. clash (ap (λ (z : SearchLeaf). same_end z leaf) (there here) ∙ is))
        ∙ sym (ap (λ (b : Bool). counted (length (cond b (leaf ∷ []) []))) is)
      where
        there : j ≡ k → way.0 ≡ l
        there here = let both : Some way.0 ≡ Some l = sym way.1 ∙ ap (slice_get ways) (sym here) ∙ e in cc

        clash : ending_eq way.0.ending leaf.ending ≡ false → ⊥
        clash f = let t = way.2 in cc

-- a way that no leaf goes
none_so : (ways : List SearchLeaf) (leaf : SearchLeaf) → has_end ways leaf.ending ≡ false → (ls : List SearchLeaf) → list_all (λ (m : SearchLeaf). has_end ways m.ending) ls ≡ true → times ls leaf ≡ 0
none_so ways leaf new [] h = refl
none_so ways leaf new (m ∷ ms) h =
    let parts = and_parts (has_end ways m.ending) (list_all (λ (m : SearchLeaf). has_end ways m.ending) ms) h in
    one (same_end leaf m) refl parts.0 (none_so ways leaf new ms parts.1)
  where
    one : (b : Bool) → same_end leaf m ≡ b → has_end ways m.ending ≡ true → times ms leaf ≡ 0 → length (cond b (m ∷ filter (same_end leaf) ms) (filter (same_end leaf) ms)) ≡ 0
    one true is there more = absurd (clash (ap (λ (e : Ending). has_end ways e) (ending_same leaf.ending m.ending is) ∙ there) new)
      where
        clash : {b : Bool} → b ≡ true → b ≡ false → ⊥
        clash t f = cc
    one false is there more = more

more_ways : (ways : List SearchLeaf) (leaf : SearchLeaf) (ls : List SearchLeaf) → list_all (λ (m : SearchLeaf). has_end ways m.ending) ls ≡ true → list_all (λ (m : SearchLeaf). has_end (ways ++ leaf ∷ []) m.ending) ls ≡ true
more_ways ways leaf [] h = refl
more_ways ways leaf (m ∷ ms) h =
    let parts = and_parts (has_end ways m.ending) (list_all (λ (m : SearchLeaf). has_end ways m.ending) ms) h in
    λ j. (list_any-append (λ (l : SearchLeaf). ending_eq l.ending m.ending) ways (leaf ∷ []) ∙ ap (λ (b : Bool). b || has_end (leaf ∷ []) m.ending) parts.0) j && more_ways ways leaf ms parts.1 j

at_end : {A : Type 0} (xs : List A) (x y : A) (k : ℕ) → slice_get (xs ++ x ∷ []) k ≡ Some y → (slice_get xs k ≡ Some y) ⊎ ((length xs ≡ k) × (x ≡ y))
at_end [] x y zero e = inr (refl, cc)
at_end [] x y (suc k) e = absurd (cc)
at_end (z ∷ zs) x y zero e = inl e
at_end (z ∷ zs) x y (suc k) e =
    elim (at_end zs x y k e) [
      | inl there ↦ inl there
      | inr new ↦ inr (ap suc new.0, new.1)
    ]

pub tells_grown : (ways : List SearchLeaf) (cs : List Count) (c : Count) (ls : List SearchLeaf) (leaf : SearchLeaf) → has_end ways leaf.ending ≡ false → TellsCounts ways cs c ls → TellsCounts (ways ++ leaf ∷ []) cs c ls
tells_grown ways cs c ls leaf new h = record {
  few = (let long = length-append ways (leaf ∷ []) in let few = h.few in omega (arith, long, few));
  counts = λ k l e.
      elim (at_end ways leaf l k e) [
        | inl there ↦ h.counts k l there
        | inr last ↦ count_beyond cs k (let few = h.few in let at = last.0 in omega (arith, few, at)) ∙ ap counted (sym (none_so ways leaf new ls h.within) ∙ ap (times ls) last.1)
      ];
  within = more_ways ways leaf ls h.within;
  total_is = h.total_is;
}

-- ---- in the end

all_zero : (g : SearchLeaf → Count) (ways : List SearchLeaf) → ((k : ℕ) (l : SearchLeaf) → slice_get ways k ≡ Some l → count_at [] k ≡ g l) → replicate (length ways) (Exactly 0) ≡ map g ways
all_zero g [] h = refl
all_zero g (l ∷ ls) h = λ j. h 0 l refl j ∷ all_zero g ls (λ k m e. h (suc k) m e) j

pub all_counted : (g : SearchLeaf → Count) (cs : List Count) (ways : List SearchLeaf) → length cs ≤ length ways → ((k : ℕ) (l : SearchLeaf) → slice_get ways k ≡ Some l → count_at cs k ≡ g l) → cs ++ replicate (length ways - length cs) (Exactly 0) ≡ map g ways
all_counted g [] ways few h = ap (λ (n : ℕ). replicate n (Exactly 0)) nothing_less ∙ all_zero g ways h
  where
    nothing_less : length ways - 0 ≡ length ways
    nothing_less = omega arith
all_counted g (c ∷ cs) [] few h = absurd (omega (arith, few))
all_counted g (c ∷ cs) (l ∷ ls) few h =
    ap (λ (n : ℕ). c ∷ (cs ++ replicate n (Exactly 0))) one_less ∙ (λ j. h 0 l refl j ∷ all_counted g cs ls (omega (arith, few)) (λ k m e. h (suc k) m e) j)
  where
    one_less : length (l ∷ ls) - length (c ∷ cs) ≡ length ls - length cs
    one_less = omega arith

pub last_at : {A : Type 0} (xs : List A) (x : A) → slice_get (xs ++ x ∷ []) (length xs) ≡ Some x
last_at [] x = refl
last_at (y ∷ ys) x = last_at ys x
