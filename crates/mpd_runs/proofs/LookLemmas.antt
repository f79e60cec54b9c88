-- Runs that are looked at up to the first deadlock or trap, and whether that is far enough.
use Rattle.std.proofs.Common.{◌≡◌, ℕ, zero, suc, Bool, true, false, ◌&&◌, ◌||◌, nat_lt, if◌then◌else◌, List, [], ◌∷◌, length, take, Option, Some, None, is_none, refl, ap, sym, ◌∙◌, arith}
use Rattle.std.proofs.lemmas.Bool.Decides.{nat_tests}
use Rattle.mpd_model.specs.steps.World.{World}
use Rattle.mpd_explore.specs.declared.report.SearchLeaf.{SearchLeaf}
use Rattle.mpd_explore.specs.declared.report.Witnesses.TheVariants.{OfNone}
use Rattle.mpd_explore.specs.Report.{is_bad, any_bad, up_to_bad, ended_by, left_out}
use Rattle.mpd_model.specs.declared.limits.TheConstants.{RUNS_MAX}
use Rattle.mpd_runs.specs.declared.way.Way.{Way}
use Rattle.mpd_runs.specs.Ways.{ends_in, first_in}
use Rattle.mpd_runs.specs.Runs.{all_runs, first_runs, are_more}
use Rattle.mpd_runs.specs.Seek.{Looked, falls_short}

-- ---- up to the first bad end

kept_by : (x : Way) (b c : Bool) (m l : SearchLeaf) (ls : List SearchLeaf) → (first_in x (up_to_bad ls) ≡ Some l → first_in x ls ≡ Some l) → (if b then Some m else first_in x (if c then [] else up_to_bad ls)) ≡ Some l
    → (if b then Some m else first_in x ls) ≡ Some l
kept_by x true c m l ls h e = e
kept_by x false true m l ls h e = absurd cc
kept_by x false false m l ls h e = h e

first_kept : (x : Way) (ls : List SearchLeaf) (l : SearchLeaf) → first_in x (up_to_bad ls) ≡ Some l → first_in x ls ≡ Some l
first_kept x [] l e = e
first_kept x (m ∷ ls) l e = kept_by x (ends_in x m) (is_bad m.ending) m l ls (first_kept x ls l) e

whole_by : (c : Bool) (m : SearchLeaf) (ls : List SearchLeaf) → (any_bad (up_to_bad ls) ≡ false → up_to_bad ls ≡ ls) → (c || any_bad (if c then [] else up_to_bad ls)) ≡ false → (m ∷ (if c then [] else up_to_bad ls)) ≡ m ∷ ls
whole_by true m ls h e = absurd cc
whole_by false m ls h e = ap (λ xs. m ∷ xs) (h e)

-- where none is bad all are kept
whole : (ls : List SearchLeaf) → any_bad (up_to_bad ls) ≡ false → up_to_bad ls ≡ ls
whole [] e = refl
whole (m ∷ ls) e = whole_by (is_bad m.ending) m ls (whole ls) e

lt_suc : (a b : ℕ) → nat_lt (suc a) (suc b) ≡ nat_lt a b
lt_suc a b = lt_by (nat_lt a b) refl
  where
    lt_by : (t : Bool) → nat_lt a b ≡ t → nat_lt (suc a) (suc b) ≡ t
    lt_by true e = grind (arith, nat_tests)
    lt_by false e = grind (arith, nat_tests)

none_below : (n : ℕ) → nat_lt 0 0 ≡ nat_lt n 0
none_below n = none_by (nat_lt n 0) refl
  where
    none_by : (t : Bool) → nat_lt n 0 ≡ t → nat_lt 0 0 ≡ t
    none_by true e = grind (arith, nat_tests)
    none_by false e = grind (arith, nat_tests)

take_more : (n : ℕ) (xs : List SearchLeaf) → nat_lt (length (take n xs)) (length xs) ≡ nat_lt n (length xs)
take_more zero xs = refl
take_more (suc n) [] = none_below (suc n)
take_more (suc n) (x ∷ xs) = lt_suc (length (take n xs)) (length xs) ∙ take_more n xs ∙ sym (lt_suc n (length xs))

-- ---- the walk

and_true : (b : Bool) → (b && true) ≡ false → b ≡ false
and_true true e = e
and_true false e = refl

enough_by : (x : Way) (n : ℕ) (w : World) (leaves : List SearchLeaf) (others : Bool) (o : Option SearchLeaf) → first_in x leaves ≡ o → (o ≡ None → (leaves ≡ first_runs RUNS_MAX n w) × (others ≡ are_more RUNS_MAX n w))
    → ((l : SearchLeaf) → o ≡ Some l → first_in x (first_runs RUNS_MAX n w) ≡ Some l) → Looked x n w leaves others
enough_by x n w leaves others None is all found = record {
  first = ap (first_in x) (all refl).0;
  all = λ h. (all refl).0;
  rest = λ h. (all refl).1;
}
enough_by x n w leaves others (Some l) is all found = record {
  first = is ∙ sym (found l refl);
  all = λ h. absurd (some_none (sym is ∙ h));
  rest = λ h. absurd (some_none (sym is ∙ h));
}
  where
    some_none : {l : SearchLeaf} → Some l ≡ None → ⊥
    some_none e = cc

short_by : (n : ℕ) (all leaves : List SearchLeaf) (others : Bool) → leaves ≡ up_to_bad (take n all) → others ≡ nat_lt (length (up_to_bad (take n all))) (length all) → any_bad leaves ≡ false → (leaves ≡ take n all) × (others ≡ nat_lt n (length all))
short_by n all leaves others is more good =
    let kept : up_to_bad (take n all) ≡ take n all = whole (take n all) (ap any_bad (sym is) ∙ good) in
    (is ∙ kept, more ∙ ap (λ (xs : List SearchLeaf). nat_lt (length xs) (length all)) kept ∙ take_more n all)

-- it ended with one that is looked for, or none is bad
pub looked_short : (x : Way) (n : ℕ) (w : World) (leaves : List SearchLeaf) (others : Bool) → leaves ≡ ended_by true (first_runs RUNS_MAX n w)
    → others ≡ left_out (record { runs = RUNS_MAX; fuel = n; witnesses = OfNone; until_bad = true; ends = true }) (all_runs n w) → falls_short x leaves ≡ false → Looked x n w leaves others
looked_short x n w leaves others is more far =
    enough_by x n w leaves others (first_in x leaves) refl
    (λ none. short_by RUNS_MAX (all_runs n w) leaves others is more (and_true (any_bad leaves) (ap (λ (o : Option SearchLeaf). any_bad leaves && is_none o) (sym none) ∙ far)))
    (λ l found. first_kept x (first_runs RUNS_MAX n w) l (ap (first_in x) (sym is) ∙ found))

-- it didn't end before the last
pub looked_whole : (x : Way) (n : ℕ) (v w : World) (leaves : List SearchLeaf) (others : Bool) → v ≡ w → leaves ≡ ended_by false (first_runs RUNS_MAX n v)
    → others ≡ left_out (record { runs = RUNS_MAX; fuel = n; witnesses = OfNone; until_bad = false; ends = true }) (all_runs n v) → Looked x n w leaves others
looked_whole x n v w leaves others same is more =
    let here : leaves ≡ first_runs RUNS_MAX n w = is ∙ ap (first_runs RUNS_MAX n) same in
    record { first = ap (first_in x) here; all = λ h. here; rest = λ h. more ∙ ap (are_more RUNS_MAX n) same }

pub ruleset looking = (looked_short, looked_whole)
