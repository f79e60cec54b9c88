-- What runs come to that are told by the first of each end and how many end so.
use Rattle.std.proofs.Common.{◌≡◌, ◌⊎◌, ℕ, ◌+◌, Bool, true, false, cond, not, List, [], ◌∷◌, length, map, take, inl, inr, refl, ap, sym, ◌∙◌, arith}
use Rattle.std.specs.Prelude.{if◌then◌else◌}
use Rattle.std.specs.List.{filter}
use Rattle.std.proofs.lemmas.List.{length-map, length-take-le}
use Rattle.std.proofs.lemmas.List.Sums.{sum_by-cons}
use Rattle.mpd_model.specs.steps.World.{World}
use Rattle.mpd_policy.specs.declared.ending.Ending.{Ending}
use Rattle.mpd_policy.specs.Walk.{wide_walk}
use Rattle.mpd_explore.specs.declared.report.SearchLeaf.{SearchLeaf}
use Rattle.mpd_explore.specs.Report.{shown}
use Rattle.mpd_outcomes.specs.declared.report.Count.{Count}
use Rattle.mpd_outcomes.specs.declared.report.Count.TheVariants.{Exactly}
use Rattle.mpd_outcomes.specs.declared.report.Outcomes.{Outcomes}
use Rattle.mpd_explore.specs.Ends.{ending_eq, same_end, firsts, times}
use Rattle.mpd_outcomes.specs.Outcomes.{counted, plus, leaves_from, TellsRuns}
use Rattle.mpd_explore.proofs.FirstLemmas.{ending_same, ending_each}
use Rattle.mpd_outcomes.proofs.TellLemmas.{plus_counted}
use Rattle.mpd_runs.specs.declared.way.Way.{Way}
use Rattle.mpd_runs.specs.declared.way.Way.TheVariants as way
use Rattle.mpd_runs.specs.declared.counts.WayCounts.{WayCounts}
use Rattle.mpd_runs.specs.Ways.{way_of, same_way, ends_in, count_in}
use Rattle.mpd_runs.specs.Counts.{counts_of, with_told}

-- ---- the loop

nothing_more : (x : Way) (sum : Count) (ls : List SearchLeaf) (cs : List Count) → (ls ≡ []) ⊎ (cs ≡ []) → with_told x sum ls cs ≡ sum
nothing_more x sum ls cs (inl e) = ap (λ (z : List SearchLeaf). with_told x sum z cs) e
nothing_more x sum [] cs (inr e) = refl
nothing_more x sum (l ∷ ls) cs (inr e) = ap (with_told x sum (l ∷ ls)) e

-- where either list has come to its end, all are added
pub all_added : (x : Way) (sum all : Count) (ls : List SearchLeaf) (cs : List Count) → (ls ≡ []) ⊎ (cs ≡ []) → with_told x sum ls cs ≡ all → sum ≡ all
all_added x sum all ls cs none told = sym (nothing_more x sum ls cs none) ∙ told

-- ---- sums over leaves

-- what those that end in a way weigh
abbrev weight : Way → (SearchLeaf → ℕ) → List SearchLeaf → ℕ
weight x g [] = 0
weight x g (l ∷ ls) = cond (ends_in x l) (g l) 0 + weight x g ls

told_weight : (x : Way) (a : ℕ) (g : SearchLeaf → ℕ) (ls : List SearchLeaf) → with_told x (counted a) ls (map (λ l. counted (g l)) ls) ≡ counted (a + weight x g ls)
told_weight x a g [] = ap counted (omega arith)
told_weight x a g (l ∷ ls) =
    ap (λ (s : Count). with_told x s ls (map (λ m. counted (g m)) ls)) (step (ends_in x l))
    ∙ told_weight x (a + cond (ends_in x l) (g l) 0) g ls
    ∙ ap counted (omega arith)
  where
    step : (b : Bool) → (if b then plus (counted a) (counted (g l)) else counted a) ≡ counted (a + cond b (g l) 0)
    step true = plus_counted a (g l)
    step false = ap counted (omega arith)

weight_split : (x : Way) (g : SearchLeaf → ℕ) (p : SearchLeaf → Bool) (ls : List SearchLeaf) → weight x g ls ≡ weight x g (filter p ls) + weight x g (filter (λ m. not (p m)) ls)
weight_split x g p [] = refl
weight_split x g p (l ∷ ls) = one (p l) (weight_split x g p ls)
  where
    one : (b : Bool) → weight x g ls ≡ weight x g (filter p ls) + weight x g (filter (λ m. not (p m)) ls)
        → cond (ends_in x l) (g l) 0 + weight x g ls ≡ weight x g (cond b (l ∷ filter p ls) (filter p ls)) + weight x g (cond (not b) (l ∷ filter (λ m. not (p m)) ls) (filter (λ m. not (p m)) ls))
    one true e = omega (arith, e)
    one false e = omega (arith, e)

same_weight : (x : Way) (g h : SearchLeaf → ℕ) (p : SearchLeaf → Bool) (ls : List SearchLeaf) → ((m : SearchLeaf) → p m ≡ true → g m ≡ h m) → weight x g (filter p ls) ≡ weight x h (filter p ls)
same_weight x g h p [] same = refl
same_weight x g h p (l ∷ ls) same = one (p l) refl (same_weight x g h p ls same)
  where
    one : (b : Bool) → p l ≡ b → weight x g (filter p ls) ≡ weight x h (filter p ls) → weight x g (cond b (l ∷ filter p ls) (filter p ls)) ≡ weight x h (cond b (l ∷ filter p ls) (filter p ls))
    one true is e = λ i. cond (ends_in x l) (same l is i) 0 + e i
    one false is e = e

none_of_both : (p q : SearchLeaf → Bool) (ls : List SearchLeaf) → ((m : SearchLeaf) → p m ≡ true → q m ≡ false) → filter p (filter q ls) ≡ []
none_of_both p q [] apart = refl
none_of_both p q (l ∷ ls) apart = one (q l) refl (p l) refl (none_of_both p q ls apart)
  where
    one : (b : Bool) → q l ≡ b → (c : Bool) → p l ≡ c → filter p (filter q ls) ≡ [] → filter p (cond b (l ∷ filter q ls) (filter q ls)) ≡ []
    one true at true is e = absurd (let f : true ≡ false = sym at ∙ apart l is in cc)
    one true at false is e = ap (λ (b : Bool). cond b (l ∷ filter p (filter q ls)) (filter p (filter q ls))) is ∙ e
    one false at c is e = e

kept_by_both : (p q : SearchLeaf → Bool) (ls : List SearchLeaf) → ((m : SearchLeaf) → p m ≡ true → q m ≡ true) → filter p (filter q ls) ≡ filter p ls
kept_by_both p q [] within = refl
kept_by_both p q (l ∷ ls) within = one (q l) refl (p l) refl (kept_by_both p q ls within)
  where
    one : (b : Bool) → q l ≡ b → (c : Bool) → p l ≡ c → filter p (filter q ls) ≡ filter p ls → filter p (cond b (l ∷ filter q ls) (filter q ls)) ≡ filter p (l ∷ ls)
    one true at c is e = ap (λ (zs : List SearchLeaf). cond (p l) (l ∷ zs) zs) e
    one false at true is e = absurd (let f : true ≡ false = sym (within l is) ∙ at in cc)
    one false at false is e = e ∙ sym (ap (λ (b : Bool). cond b (l ∷ filter p ls) (filter p ls)) is)

-- ---- ends

same_back : (l m : SearchLeaf) → same_end l m ≡ true → same_end m l ≡ true
same_back l m h = ap (λ (z : Ending). ending_eq z l.ending) (sym (ending_same l.ending m.ending h)) ∙ ending_each l.ending

-- what ends as another leaf does tells the same of a third
same_as : (l m k : SearchLeaf) → same_end l m ≡ true → same_end m k ≡ same_end l k
same_as l m k h = ap (λ (z : Ending). ending_eq z k.ending) (sym (ending_same l.ending m.ending h))

pub same_ways : (x : Way) (l m : SearchLeaf) → same_end l m ≡ true → ends_in x m ≡ ends_in x l
same_ways x l m h = ap (λ (z : Ending). same_way x (way_of z)) (sym (ending_same l.ending m.ending h))

turned : (l m : SearchLeaf) (b : Bool) → same_end l m ≡ b → same_end m l ≡ b
turned l m true e = same_back l m e
turned l m false e = by (same_end m l) refl
  where
    by : (c : Bool) → same_end m l ≡ c → same_end m l ≡ false
    by true f = absurd (let z : true ≡ false = sym (same_back m l f) ∙ e in cc)
    by false f = f

un_not : (b : Bool) → not b ≡ true → b ≡ false
un_not true e = absurd cc
un_not false e = refl

pub un_false : (b : Bool) → not b ≡ false → b ≡ true
un_false true e = refl
un_false false e = absurd cc

-- ---- how many end as the first does

times_more : (k : SearchLeaf) (ks : List SearchLeaf) (m : SearchLeaf) → times (k ∷ ks) m ≡ cond (same_end m k) 1 0 + times ks m
times_more k ks m = one (same_end m k)
  where
    one : (b : Bool) → length (cond b (k ∷ filter (same_end m) ks) (filter (same_end m) ks)) ≡ cond b 1 0 + length (filter (same_end m) ks)
    one true = omega arith
    one false = omega arith

times_apart : (k : SearchLeaf) (ks : List SearchLeaf) (m : SearchLeaf) → same_end m k ≡ false → times (k ∷ ks) m ≡ times ks m
times_apart k ks m e = let z : times (k ∷ ks) m ≡ 0 + times ks m = times_more k ks m ∙ ap (λ (b : Bool). cond b 1 0 + times ks m) e in omega (arith, z)

times_same : (ls : List SearchLeaf) (l m : SearchLeaf) → same_end l m ≡ true → times ls m ≡ times ls l
times_same ls l m e = ap (λ (z : Ending). length (filter (λ (n : SearchLeaf). ending_eq z n.ending) ls)) (sym (ending_same l.ending m.ending e))

-- those of the first leaves that end as a leaf does weigh what ends so
one_weight : (x : Way) (ls : List SearchLeaf) (l : SearchLeaf) → weight x (times ls) (filter (same_end l) (firsts ls)) ≡ cond (ends_in x l) (times ls l) 0
one_weight x [] l = none (ends_in x l)
  where
    none : (b : Bool) → ◌≡◌ {A = ℕ} 0 (cond b 0 0)
    none true = refl
    none false = refl
one_weight x (k ∷ ks) l = one (same_end l k) refl (one_weight x ks l)
  where
    others : List SearchLeaf
    others = filter (λ m. not (same_end k m)) (firsts ks)

    alone : same_end l k ≡ true → filter (same_end l) others ≡ []
    alone e = none_of_both (same_end l) (λ m. not (same_end k m)) (firsts ks) (λ m h. ap not (same_as l k m e ∙ h))

    apart : same_end l k ≡ false → (m : SearchLeaf) → same_end l m ≡ true → same_end m k ≡ false
    apart e m h = same_as l m k h ∙ e

    whole : same_end l k ≡ false → filter (same_end l) others ≡ filter (same_end l) (firsts ks)
    whole e = kept_by_both (same_end l) (λ m. not (same_end k m)) (firsts ks) (λ m h. ap not (turned m k false (apart e m h)))

    one : (b : Bool) → same_end l k ≡ b → weight x (times ks) (filter (same_end l) (firsts ks)) ≡ cond (ends_in x l) (times ks l) 0
        → weight x (times (k ∷ ks)) (cond b (k ∷ filter (same_end l) others) (filter (same_end l) others)) ≡ cond (ends_in x l) (times (k ∷ ks) l) 0
    one true e h =
        (λ i. cond (same_ways x l k e i) (times_same (k ∷ ks) l k e i) 0 + weight x (times (k ∷ ks)) (alone e i))
        ∙ (let z : cond (ends_in x l) (times (k ∷ ks) l) 0 + 0 ≡ cond (ends_in x l) (times (k ∷ ks) l) 0 = omega arith in z)
    one false e h =
        ap (weight x (times (k ∷ ks))) (whole e)
        ∙ same_weight x (times (k ∷ ks)) (times ks) (same_end l) (firsts ks) (λ m h. times_apart k ks m (apart e m h))
        ∙ h
        ∙ ap (λ (n : ℕ). cond (ends_in x l) n 0) (sym (times_apart k ks l e))

-- all first leaves weigh what all leaves do
all_weight : (x : Way) (ls : List SearchLeaf) → weight x (times ls) (firsts ls) ≡ count_in x ls
all_weight x [] = refl
all_weight x (k ∷ ks) =
    let others : List SearchLeaf = filter (λ m. not (same_end k m)) (firsts ks) in
    let here : times (k ∷ ks) k ≡ 1 + times ks k = times_more k ks k ∙ ap (λ (b : Bool). cond b 1 0 + times ks k) (ending_each k.ending) in
    let there : weight x (times (k ∷ ks)) others ≡ weight x (times ks) others =
    same_weight x (times (k ∷ ks)) (times ks) (λ m. not (same_end k m)) (firsts ks) (λ m h. times_apart k ks m (turned k m false (un_not (same_end k m) h))) in
    let split : weight x (times ks) (firsts ks) ≡ weight x (times ks) (filter (same_end k) (firsts ks)) + weight x (times ks) others = weight_split x (times ks) (same_end k) (firsts ks) in
    let more : count_in x (k ∷ ks) ≡ cond (ends_in x k) 1 0 + count_in x ks = sum_by-cons (λ m. cond (ends_in x m) 1 0) k ks in
    (λ i. cond (ends_in x k) (here i) 0 + there i)
    ∙ joined (ends_in x k) (times ks k) (weight x (times ks) others) (count_in x ks) (sym (sym split ∙ all_weight x ks) ∙ ap (λ (n : ℕ). n + weight x (times ks) others) (one_weight x ks k))
    ∙ sym more
  where
    joined : (b : Bool) (n rest all : ℕ) → all ≡ cond b n 0 + rest → cond b (1 + n) 0 + rest ≡ cond b 1 0 + all
    joined true n rest all e = omega (arith, e)
    joined false n rest all e = omega (arith, e)

-- ---- what is told

told_of_way : (x : Way) (ls fs : List SearchLeaf) (cs : List Count) → fs ≡ firsts ls → cs ≡ map (λ l. counted (times ls l)) (firsts ls) → with_told x (Exactly 0) fs cs ≡ counted (count_in x ls)
told_of_way x ls fs cs e f = (λ i. with_told x (Exactly 0) (e i) (f i)) ∙ told_weight x 0 (times ls) (firsts ls) ∙ ap counted (let z = all_weight x ls in omega (arith, z))

pub told_counts : (n : ℕ) (w : World) (o : Outcomes) (h : TellsRuns n w o) (x : Way) → with_told x (Exactly 0) o.firsts.leaves.items o.counts.items ≡ counted (count_in x (take h.runs (leaves_from n w)))
told_counts n w o h x = told_of_way x (take h.runs (leaves_from n w)) o.firsts.leaves.items o.counts.items h.firsts_are h.counts_are

total_told : (n : ℕ) (w : World) (o : Outcomes) (h : TellsRuns n w o) → o.total ≡ counted (length (take h.runs (leaves_from n w)))
total_told n w o h =
    let many : length (leaves_from n w) ≡ length (wide_walk n w) = length-map (wide_walk n w) shown in
    let few = h.few in
    h.total_is ∙ ap counted (sym (length-take-le h.runs (leaves_from n w) (omega (arith, many, few))))

pub counts_are : (n : ℕ) (w : World) (o : Outcomes) (h : TellsRuns n w o) (done leftovers deadlock trap cut : Count)
    → done ≡ with_told way.Done (Exactly 0) o.firsts.leaves.items o.counts.items → leftovers ≡ with_told way.Leftovers (Exactly 0) o.firsts.leaves.items o.counts.items
    → deadlock ≡ with_told way.Deadlock (Exactly 0) o.firsts.leaves.items o.counts.items → trap ≡ with_told way.Trap (Exactly 0) o.firsts.leaves.items o.counts.items
    → cut ≡ with_told way.Cut (Exactly 0) o.firsts.leaves.items o.counts.items
    → (let counts : WayCounts = record { done = done; leftovers = leftovers; deadlock = deadlock; trap = trap; cut = cut; total = o.total; more = o.firsts.more } in counts) ≡ counts_of (take h.runs (leaves_from n w)) o.firsts.more
counts_are n w o h done leftovers deadlock trap cut a b c d e = λ i. record {
  done = (a ∙ told_counts n w o h way.Done) i;
  leftovers = (b ∙ told_counts n w o h way.Leftovers) i;
  deadlock = (c ∙ told_counts n w o h way.Deadlock) i;
  trap = (d ∙ told_counts n w o h way.Trap) i;
  cut = (e ∙ told_counts n w o h way.Cut) i;
  total = total_told n w o h i;
  more = o.firsts.more;
}
