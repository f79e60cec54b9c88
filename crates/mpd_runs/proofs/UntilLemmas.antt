-- A sample that ends after its first deadlock or trap.
use Rattle.std.proofs.Common.{◌≡◌, ℕ, zero, suc, ◌+◌, ◌<◌, ◌≤◌, cond, not, Bool, true, false, List, [], ◌∷◌, length, map, take, nat_lt, Some, None, Less, refl, sym, ap, ◌∙◌, subst, arith}
use Rattle.std.specs.Prelude.{String, string_bytes}
use Rattle.std.specs.Global.{Global}
use Rattle.std.specs.List.{AllByRecursion, position, position_or_len}
use Rattle.std.specs.List.Sorted.{IsStrictlySortedBy}
use Rattle.std.proofs.lemmas.List.{take_all, length-map}
use Rattle.mpd_model.specs.steps.World.{World}
use Rattle.mpd_explore.specs.declared.report.SearchLeaf.{SearchLeaf}
use Rattle.mpd_policy.specs.Walk.{wide_walk}
use Rattle.mpd_explore.specs.Report.{shown, is_bad, up_to_bad, ended_by}
use Rattle.mpd_explore.proofs.ListedLemmas.{is_not_less, not_less}
use Rattle.mpd_runs.specs.Order.{leaf_order, Rises}
use Rattle.mpd_runs.specs.Drawn.{sampled}
use Rattle.mpd_runs.specs.Drawing.{TextsAre}
use Rattle.mpd_runs.proofs.SampleLemmas.{sample_all}

-- ---- where the first bad leaf stands

abbrev pub bad : SearchLeaf → Bool
bad l = is_bad l.ending

one_more : (l : SearchLeaf) (ls : List SearchLeaf) (k : ℕ) → (l ∷ take (k + 1) ls) ≡ take (1 + k + 1) (l ∷ ls)
one_more l ls k = let is : suc (k + 1) ≡ 1 + k + 1 = omega arith in ap (λ n. take n (l ∷ ls)) is

up_case : (l : SearchLeaf) (ls : List SearchLeaf) (b : Bool) → up_to_bad ls ≡ take (position_or_len bad ls + 1) ls → (l ∷ cond b [] (up_to_bad ls)) ≡ take (cond (not b) (1 + position_or_len bad ls) 0 + 1) (l ∷ ls)
up_case l ls true h = refl
up_case l ls false h = ap (λ ms. l ∷ ms) h ∙ one_more l ls (position_or_len bad ls)

up_is : (ls : List SearchLeaf) → up_to_bad ls ≡ take (position_or_len bad ls + 1) ls
up_is [] = refl
up_is (l ∷ ls) = up_case l ls (bad l) (up_is ls)

found_case : (b : Bool) (n m : ℕ) → cond b (Some n) None ≡ Some m → n ≡ m
found_case true n m h = cc
found_case false n m h = cc

none_case : (b : Bool) (n : ℕ) → cond b (Some n) None ≡ None → b ≡ false
none_case true n h = cc
none_case false n h = refl

pub up_to_found : (ls : List SearchLeaf) (n : ℕ) → position bad ls ≡ Some n → up_to_bad ls ≡ take (n + 1) ls
up_to_found ls n h = up_is ls ∙ ap (λ m. take (m + 1) ls) (found_case (nat_lt (position_or_len bad ls) (length ls)) (position_or_len bad ls) n h)

-- ---- what holds of all leaves holds of those

all_case : (P : SearchLeaf → Type 0) (l : SearchLeaf) (ls : List SearchLeaf) (b : Bool) → P l → AllByRecursion P ls → AllByRecursion P (l ∷ cond b [] ls)
all_case P l ls true h all = (h, tt)
all_case P l ls false h all = (h, all)

all_up : (P : SearchLeaf → Type 0) (ls : List SearchLeaf) → AllByRecursion P ls → AllByRecursion P (up_to_bad ls)
all_up P [] h = tt
all_up P (l ∷ ls) h = all_case P l (up_to_bad ls) (is_bad l.ending) h.0 (all_up P ls h.1)

pub all_ended : (P : SearchLeaf → Type 0) (b : Bool) (ls : List SearchLeaf) → AllByRecursion P ls → AllByRecursion P (ended_by b ls)
all_ended P false ls h = h
all_ended P true ls h = all_up P ls h

rises_case : (l : SearchLeaf) (ls : List SearchLeaf) (b : Bool) → AllByRecursion (λ m. leaf_order l m ≡ Less) ls → Rises ls → Rises (l ∷ cond b [] ls)
unfolding IsStrictlySortedBy
rises_case l ls true above h = (tt, tt)
rises_case l ls false above h = (above, h)

rises_up : (ls : List SearchLeaf) → Rises ls → Rises (up_to_bad ls)
unfolding IsStrictlySortedBy
rises_up [] h = tt
rises_up (l ∷ ls) h = rises_case l (up_to_bad ls) (is_bad l.ending) (all_up (λ m. leaf_order l m ≡ Less) ls h.0) (rises_up ls h.1)

pub rises_ended : (b : Bool) (ls : List SearchLeaf) → Rises ls → Rises (ended_by b ls)
rises_ended false ls h = h
rises_ended true ls h = rises_up ls h

-- ---- how many they are

few_case : (l : SearchLeaf) (ls ms : List SearchLeaf) (b : Bool) → length ms ≤ length ls → length (l ∷ cond b [] ms) ≤ length (l ∷ ls)
few_case l ls ms true h = omega arith
few_case l ls ms false h = omega (arith, h)

few_up : (ls : List SearchLeaf) → length (up_to_bad ls) ≤ length ls
few_up [] = omega arith
few_up (l ∷ ls) = few_case l ls (up_to_bad ls) (is_bad l.ending) (few_up ls)

pub few_ended : (b : Bool) (ls : List SearchLeaf) → length (ended_by b ls) ≤ length ls
few_ended false ls = omega arith
few_ended true ls = few_up ls

some_up : (ls : List SearchLeaf) → 0 < length ls → 0 < length (up_to_bad ls)
some_up [] h = absurd (omega (arith, h))
some_up (l ∷ ls) h = omega arith

pub some_ended : (b : Bool) (ls : List SearchLeaf) → 0 < length ls → 0 < length (ended_by b ls)
some_ended false ls h = h
some_ended true ls h = some_up ls h

-- as many as all are all
whole_case : (l : SearchLeaf) (ls ms : List SearchLeaf) (b : Bool) → length ms ≤ length ls → (length ls ≤ length ms → ms ≡ ls) → length (l ∷ ls) ≤ length (l ∷ cond b [] ms) → (l ∷ cond b [] ms) ≡ l ∷ ls
whole_case l [] ms true few same h = refl
whole_case l (m ∷ ls) ms true few same h = absurd (omega (arith, h))
whole_case l ls ms false few same h = ap (λ xs. l ∷ xs) (same (omega (arith, h)))

whole_up : (ls : List SearchLeaf) → length ls ≤ length (up_to_bad ls) → up_to_bad ls ≡ ls
whole_up [] h = refl
whole_up (l ∷ ls) h = whole_case l ls (up_to_bad ls) (is_bad l.ending) (few_up ls) (whole_up ls) h

pub whole_ended : (b : Bool) (ls : List SearchLeaf) → length ls ≤ length (ended_by b ls) → ended_by b ls ≡ ls
whole_ended false ls h = refl
whole_ended true ls h = whole_up ls h

-- where there is no bad one they are all
pub up_to_all : (ls : List SearchLeaf) → position bad ls ≡ None → up_to_bad ls ≡ take (length ls) ls
up_to_all ls h =
    let none : nat_lt (position_or_len bad ls) (length ls) ≡ false = none_case (nat_lt (position_or_len bad ls) (length ls)) (position_or_len bad ls) h in
    up_is ls ∙ take_all (position_or_len bad ls + 1) ls (omega (arith, not_less (position_or_len bad ls) (length ls) none)) ∙ sym (take_all (length ls) ls (omega arith))

-- ---- their texts

taken : (text : SearchLeaf → List ℕ) (n : ℕ) (ls : List SearchLeaf) → take n (map text ls) ≡ map text (take n ls)
taken text zero ls = refl
taken text (suc n) [] = refl
taken text (suc n) (l ∷ ls) = ap (λ ts. text l ∷ ts) (taken text n ls)

taken_none : (n : ℕ) → take {A = List ℕ} n [] ≡ []
taken_none zero = refl
taken_none (suc n) = refl

pub texts_taken : (asked : Bool) (text : SearchLeaf → List ℕ) (n : ℕ) (ls : List SearchLeaf) (texts : List (List ℕ)) → TextsAre asked text ls texts → TextsAre asked text (take n ls) (take n texts)
texts_taken false text n ls texts h = ap (take n) h ∙ taken_none n
texts_taken true text n ls texts h = ap (take n) h ∙ taken text n ls

pub texts_cut : (n : ℕ) (texts : List (String Global)) → map string_bytes (take n texts) ≡ take n (map string_bytes texts)
texts_cut zero texts = refl
texts_cut (suc n) [] = refl
texts_cut (suc n) (t ∷ ts) = ap (λ xs. string_bytes t ∷ xs) (texts_cut n ts)

pub texts_at : (asked : Bool) (text : SearchLeaf → List ℕ) (n : ℕ) (old new : List SearchLeaf) (texts now : List (List ℕ)) → new ≡ take n old → now ≡ take n texts → TextsAre asked text old texts → TextsAre asked text new now
texts_at asked text n old new texts now leaves_are texts_are h = rw (leaves_are, texts_are) (texts_taken asked text n old texts h)

-- ---- where there are no other runs

pub ended_all : (b : Bool) (lists : List (List ℕ)) (n : ℕ) (w : World) (leaves : List SearchLeaf) (more : Bool) → leaves ≡ ended_by b (map shown (sampled lists n w)) → more ≡ nat_lt (length leaves) (length (wide_walk n w)) → more ≡ false → leaves ≡ map shown (wide_walk n w)
ended_all b lists n w leaves more is told none =
    let all : List SearchLeaf = map shown (sampled lists n w) in
    let long : length (wide_walk n w) ≤ length leaves = not_less (length leaves) (length (wide_walk n w)) (sym told ∙ none) in
    let few : length leaves ≤ length all = subst (λ (m : ℕ). m ≤ length all) (sym (ap length is)) (few_ended b all) in
    let whole : all ≡ map shown (wide_walk n w) = sample_all lists n w all (nat_lt (length all) (length (wide_walk n w))) refl refl (is_not_less (length all) (length (wide_walk n w)) (omega (arith, long, few))) in
    let same : length all ≤ length (ended_by b all) = omega (arith, ap length whole, length-map (wide_walk n w) shown, long, ap length is) in
    is ∙ whole_ended b all same ∙ whole
