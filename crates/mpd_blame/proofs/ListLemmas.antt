-- What is told of the first leaves of each end is told of all leaves.
use Rattle.std.proofs.Common.{◌≡◌, ℕ, zero, suc, Bool, true, false, cond, ◌&&◌, ◌||◌, not, Option, Some, None, List, [], ◌∷◌, map, take, refl, sym, ap, subst, ◌∙◌}
use Rattle.std.specs.List.{AllByRecursion, filter, find, list_all, list_any}
use Rattle.std.proofs.lemmas.Bool.{and_parts}
use Rattle.mpd_explore.specs.declared.report.SearchLeaf.{SearchLeaf}
use Rattle.mpd_outcomes.specs.declared.report.Goal.{Goal}
use Rattle.mpd_outcomes.specs.Goals.{meets}
use Rattle.mpd_explore.specs.Ends.{firsts, same_end}
use Rattle.mpd_outcomes.specs.Front.{put}
use Rattle.mpd_explore.proofs.FirstLemmas.{ending_same}

-- leaves that end in the same way meet the same goals
same_goal : (g : Goal) (l m : SearchLeaf) → same_end l m ≡ true → meets g l.ending ≡ meets g m.ending
same_goal g l m e = ap (meets g) (ending_same l.ending m.ending e)

-- ---- all

all_unfiltered : (g : Goal) (l : SearchLeaf) (ms : List SearchLeaf) → meets g l.ending ≡ true → list_all (λ m. meets g m.ending) (filter (λ m. not (same_end l m)) ms) ≡ true → list_all (λ m. meets g m.ending) ms ≡ true
all_unfiltered g l [] here h = refl
all_unfiltered g l (m ∷ ms) here h = one (same_end l m) refl (all_unfiltered g l ms here) h
  where
    one : (b : Bool) → same_end l m ≡ b → (list_all (λ k. meets g k.ending) (filter (λ k. not (same_end l k)) ms) ≡ true → list_all (λ k. meets g k.ending) ms ≡ true)
        → list_all (λ k. meets g k.ending) (cond (not b) (m ∷ filter (λ k. not (same_end l k)) ms) (filter (λ k. not (same_end l k)) ms)) ≡ true → (meets g m.ending && list_all (λ k. meets g k.ending) ms) ≡ true
    one true is more rest = λ j. (sym (same_goal g l m is) ∙ here) j && more rest j
    one false is more rest = let parts = and_parts (meets g m.ending) (list_all (λ k. meets g k.ending) (filter (λ k. not (same_end l k)) ms)) rest in λ j. parts.0 j && more parts.1 j

pub all_firsts : (g : Goal) (ls : List SearchLeaf) → list_all (λ m. meets g m.ending) (firsts ls) ≡ true → list_all (λ m. meets g m.ending) ls ≡ true
all_firsts g [] h = refl
all_firsts g (l ∷ ls) h =
    let parts = and_parts (meets g l.ending) (list_all (λ m. meets g m.ending) (filter (λ m. not (same_end l m)) (firsts ls))) h in
    λ j. parts.0 j && all_firsts g ls (all_unfiltered g l (firsts ls) parts.0 parts.1) j

-- and the other way round
all_filtered : (g : Goal) (q : SearchLeaf → Bool) (ms : List SearchLeaf) → list_all (λ m. meets g m.ending) ms ≡ true → list_all (λ m. meets g m.ending) (filter q ms) ≡ true
all_filtered g q [] h = refl
all_filtered g q (m ∷ ms) h = let parts = and_parts (meets g m.ending) (list_all (λ k. meets g k.ending) ms) h in one (q m) parts.0 (all_filtered g q ms parts.1)
  where
    one : (b : Bool) → meets g m.ending ≡ true → list_all (λ k. meets g k.ending) (filter q ms) ≡ true → list_all (λ k. meets g k.ending) (cond b (m ∷ filter q ms) (filter q ms)) ≡ true
    one true here more = λ j. here j && more j
    one false here more = more

pub all_within : (g : Goal) (ls : List SearchLeaf) → list_all (λ m. meets g m.ending) ls ≡ true → list_all (λ m. meets g m.ending) (firsts ls) ≡ true
all_within g [] h = refl
all_within g (l ∷ ls) h = let parts = and_parts (meets g l.ending) (list_all (λ m. meets g m.ending) ls) h in λ j. parts.0 j && all_filtered g (λ m. not (same_end l m)) (firsts ls) (all_within g ls parts.1) j

-- where not all firsts meet a goal, not all leaves do
pub not_all_firsts : (g : Goal) (ls : List SearchLeaf) → list_all (λ m. meets g m.ending) (firsts ls) ≡ false → list_all (λ m. meets g m.ending) ls ≡ false
not_all_firsts g ls h = one (list_all (λ m. meets g m.ending) ls) refl
  where
    one : (b : Bool) → list_all (λ m. meets g m.ending) ls ≡ b → b ≡ false
    one false is = refl
    one true is = let all = all_within g ls is in absurd (cc)

-- ---- the first

find_unfiltered : (g : Goal) (l : SearchLeaf) (ms : List SearchLeaf) → meets g l.ending ≡ false → find (λ m. meets g m.ending) (filter (λ m. not (same_end l m)) ms) ≡ find (λ m. meets g m.ending) ms
find_unfiltered g l [] here = refl
find_unfiltered g l (m ∷ ms) here = one (same_end l m) refl (find_unfiltered g l ms here)
  where
    one : (b : Bool) → same_end l m ≡ b → find (λ k. meets g k.ending) (filter (λ k. not (same_end l k)) ms) ≡ find (λ k. meets g k.ending) ms
        → find (λ k. meets g k.ending) (cond (not b) (m ∷ filter (λ k. not (same_end l k)) ms) (filter (λ k. not (same_end l k)) ms)) ≡ cond (meets g m.ending) (Some m) (find (λ k. meets g k.ending) ms)
    one true is more = more ∙ (λ j. cond (sym (sym (same_goal g l m is) ∙ here) j) (Some m) (find (λ k. meets g k.ending) ms))
    one false is more = ap (λ (o : Option SearchLeaf). cond (meets g m.ending) (Some m) o) more

pub find_firsts : (g : Goal) (ls : List SearchLeaf) → find (λ m. meets g m.ending) (firsts ls) ≡ find (λ m. meets g m.ending) ls
find_firsts g [] = refl
find_firsts g (l ∷ ls) = one (meets g l.ending) refl (find_firsts g ls)
  where
    one : (b : Bool) → meets g l.ending ≡ b → find (λ m. meets g m.ending) (firsts ls) ≡ find (λ m. meets g m.ending) ls → cond b (Some l) (find (λ m. meets g m.ending) (filter (λ m. not (same_end l m)) (firsts ls))) ≡ cond b (Some l) (find (λ m. meets g m.ending) ls)
    one true is more = refl
    one false is more = find_unfiltered g l (firsts ls) is ∙ more

-- the first of some that come first is the first of all
pub find_taken : (p : SearchLeaf → Bool) (n : ℕ) (ls : List SearchLeaf) (l : SearchLeaf) → find p (take n ls) ≡ Some l → find p ls ≡ Some l
find_taken p zero ls l h = absurd (cc)
find_taken p (suc n) [] l h = absurd (cc)
find_taken p (suc n) (m ∷ ms) l h = one (p m) (find_taken p n ms l) h
  where
    one : (b : Bool) → (find p (take n ms) ≡ Some l → find p ms ≡ Some l) → cond b (Some m) (find p (take n ms)) ≡ Some l → cond b (Some m) (find p ms) ≡ Some l
    one true more e = e
    one false more e = more e

pub none_found : (p : SearchLeaf → Bool) (ls : List SearchLeaf) → find p ls ≡ None → list_any p ls ≡ false
none_found p [] h = refl
none_found p (m ∷ ms) h = one (p m) (none_found p ms) h
  where
    one : (b : Bool) → (find p ms ≡ None → list_any p ms ≡ false) → cond b (Some m) (find p ms) ≡ None → (b || list_any p ms) ≡ false
    one true more e = absurd (cc)
    one false more e = more e

-- what holds of all holds of what is found
pub found_has : (p : SearchLeaf → Bool) (P : SearchLeaf → Type 0) (ls : List SearchLeaf) (l : SearchLeaf) → find p ls ≡ Some l → AllByRecursion P ls → P l
found_has p P [] l h all = absurd (cc)
found_has p P (m ∷ ms) l h all = one (p m) (λ e. found_has p P ms l e all.1) h
  where
    one : (b : Bool) → (find p ms ≡ Some l → P l) → cond b (Some m) (find p ms) ≡ Some l → P l
    one true more e = let same : m ≡ l = cc in subst P same all.0
    one false more e = more e

-- ---- leaves with choices before them

pub all_put : (g : Goal) (cs : List ℕ) (ls : List SearchLeaf) → list_all (λ m. meets g m.ending) (map (put cs) ls) ≡ list_all (λ m. meets g m.ending) ls
all_put g cs [] = refl
all_put g cs (l ∷ ls) = ap (λ (b : Bool). meets g l.ending && b) (all_put g cs ls)
