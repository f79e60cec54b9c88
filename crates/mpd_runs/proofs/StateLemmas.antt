-- What coming to each state once tells of all runs of the wide walk.
use Rattle.std.proofs.Common.{◌≡◌, ◌⊎◌, ℕ, zero, suc, ◌-◌, ◌<◌, ◌≤◌, Bool, true, false, cond, not, ◌||◌, if◌then◌else◌, List, [], ◌∷◌, length, map, take, drop, Option, Some, None, inl, inr, refl, ap, sym, ◌∙◌, arith, subst}
use Rattle.std.specs.Prelude.{option_map, IfSome}
use Rattle.std.specs.List.{filter, list_any}
use Rattle.std.proofs.lemmas.Bool.{ltb-true}
use Rattle.std.proofs.lemmas.List.{take_all, length-map}
use Rattle.mpd_model.specs.declared.step.Step.{Step}
use Rattle.mpd_model.specs.declared.outcome.Outcome.TheVariants as outcome_is
use Rattle.mpd_model.specs.steps.World.{World}
use Rattle.mpd_model.specs.runs.Trail.{Trail, done_steps}
use Rattle.mpd_policy.specs.declared.ending.Ending.{Ending}
use Rattle.mpd_policy.specs.declared.ending.Ending.TheVariants.{Ended, Cut}
use Rattle.mpd_policy.specs.Walk.{wide_walk}
use Rattle.mpd_explore.specs.declared.report.SearchLeaf.{SearchLeaf}
use Rattle.mpd_explore.specs.declared.report.Witnesses.TheVariants.{OfNone}
use Rattle.mpd_explore.specs.Report.{shown}
use Rattle.mpd_explore.proofs.ListedLemmas.{not_less}
use Rattle.mpd_outcomes.specs.declared.report.Goal.{Goal}
use Rattle.mpd_outcomes.specs.declared.report.Goal.TheVariants as goal_is
use Rattle.mpd_outcomes.specs.declared.report.Outcomes.{Outcomes}
use Rattle.mpd_explore.specs.Ends.{same_end, firsts}
use Rattle.mpd_outcomes.specs.Outcomes.{leaves_from, TellsRuns}
use Rattle.mpd_outcomes.specs.Goals.{meets, meets_any, ends_at, states_along, StopsFor, StopsRuns}
use Rattle.mpd_runs.specs.declared.counts.WayCounts.{WayCounts}
use Rattle.mpd_runs.specs.declared.search.WholeRun.{WholeRun}
use Rattle.mpd_runs.specs.declared.states.TheConstants.{STATES_KEPT, STATES_VISITED}
use Rattle.mpd_runs.specs.declared.way.Way.{Way}
use Rattle.mpd_runs.specs.declared.way.Way.TheVariants as way
use Rattle.mpd_runs.specs.Ways.{way_of, same_way, ends_in, first_in}
use Rattle.mpd_runs.specs.Counts.{counts_of}
use Rattle.mpd_runs.specs.Seek.{whole_run, goal_of, LiesAhead, StatesTell}
use Rattle.mpd_runs.proofs.CountLemmas.{same_ways}

-- ---- the first run that ends so, among the first of each end

first_left : (x : Way) (k : SearchLeaf) (ls : List SearchLeaf) → ends_in x k ≡ false → first_in x (filter (λ m. not (same_end k m)) ls) ≡ first_in x ls
first_left x k [] other = refl
first_left x k (m ∷ ms) other = one (same_end k m) refl (first_left x k ms other)
  where
    left : List SearchLeaf
    left = filter (λ m. not (same_end k m)) ms

    one : (b : Bool) → same_end k m ≡ b → first_in x left ≡ first_in x ms → first_in x (cond (not b) (m ∷ left) left) ≡ first_in x (m ∷ ms)
    one true is e = e ∙ sym (ap (λ (c : Bool). if c then Some m else first_in x ms) (same_ways x k m is ∙ other))
    one false is e = ap (λ (o : Option SearchLeaf). if ends_in x m then Some m else o) e

first_of_firsts : (x : Way) (ls : List SearchLeaf) → first_in x (firsts ls) ≡ first_in x ls
first_of_firsts x [] = refl
first_of_firsts x (k ∷ ks) = one (ends_in x k) refl (first_of_firsts x ks)
  where
    one : (b : Bool) → ends_in x k ≡ b → first_in x (firsts ks) ≡ first_in x ks → (if b then Some k else first_in x (filter (λ m. not (same_end k m)) (firsts ks))) ≡ (if b then Some k else first_in x ks)
    one true is e = refl
    one false is e = first_left x k (firsts ks) is ∙ e

first_taken : (x : Way) (n : ℕ) (ls : List SearchLeaf) (l : SearchLeaf) → first_in x (take n ls) ≡ Some l → first_in x ls ≡ Some l
first_taken x zero ls l e = absurd cc
first_taken x (suc n) [] l e = absurd cc
first_taken x (suc n) (k ∷ ks) l e = one (ends_in x k) (first_taken x n ks l) e
  where
    one : (b : Bool) → (first_in x (take n ks) ≡ Some l → first_in x ks ≡ Some l) → (if b then Some k else first_in x (take n ks)) ≡ Some l → (if b then Some k else first_in x ks) ≡ Some l
    one true more e = e
    one false more e = more e

-- ---- where no run ends so, the search didn't stop for one

hangs : (e : Ending) → meets goal_is.Deadlock e ≡ true → same_way way.Deadlock (way_of e) ≡ true
hangs Cut h = absurd cc
hangs (Ended outcome_is.Done) h = absurd cc
hangs (Ended (outcome_is.Leftovers calls)) h = absurd cc
hangs (Ended (outcome_is.Deadlock calls)) h = refl
hangs (Ended (outcome_is.Trap ranks)) h = absurd cc

traps : (e : Ending) → meets goal_is.Trap e ≡ true → same_way way.Trap (way_of e) ≡ true
traps Cut h = absurd cc
traps (Ended outcome_is.Done) h = absurd cc
traps (Ended (outcome_is.Leftovers calls)) h = absurd cc
traps (Ended (outcome_is.Deadlock calls)) h = absurd cc
traps (Ended (outcome_is.Trap ranks)) h = refl

goal_met : (x : Way) (l : SearchLeaf) → meets_any (goal_of x) l ≡ true → ends_in x l ≡ true
goal_met way.Done l h = absurd cc
goal_met way.Leftovers l h = absurd cc
goal_met way.Deadlock l h = hangs l.ending h
goal_met way.Trap l h = traps l.ending h
goal_met way.Cut l h = absurd cc

rest_without : (x : Way) (n : ℕ) (ls : List SearchLeaf) → first_in x ls ≡ None → first_in x (drop n ls) ≡ None
rest_without x zero ls e = e
rest_without x (suc n) [] e = refl
rest_without x (suc n) (l ∷ ls) e = rest_without x n ls (one (ends_in x l) e)
  where
    one : (b : Bool) → (if b then Some l else first_in x ls) ≡ None → first_in x ls ≡ None
    one true e = absurd cc
    one false e = e

none_meets : (x : Way) (ls : List SearchLeaf) → first_in x ls ≡ None → list_any (meets_any (goal_of x)) ls ≡ false
none_meets x [] e = refl
none_meets x (l ∷ ls) e = one (ends_in x l) refl e (none_meets x ls)
  where
    by : (c : Bool) → meets_any (goal_of x) l ≡ c → ends_in x l ≡ false → c ≡ false
    by true is other = absurd (let z : true ≡ false = sym (goal_met x l is) ∙ other in cc)
    by false is other = refl

    one : (b : Bool) → ends_in x l ≡ b → (if b then Some l else first_in x ls) ≡ None → (first_in x ls ≡ None → list_any (meets_any (goal_of x)) ls ≡ false)
        → (meets_any (goal_of x) l || list_any (meets_any (goal_of x)) ls) ≡ false
    one true is e more = absurd cc
    one false is e more = (λ i. by (meets_any (goal_of x) l) refl is i || list_any (meets_any (goal_of x)) ls) ∙ more e

not_stopped_for : (x : Way) (ls : List SearchLeaf) → first_in x ls ≡ None → ends_at (goal_of x) ls ≡ false
not_stopped_for x ls e = none_meets x (drop (length ls - 1) ls) (rest_without x (length ls - 1) ls e)

-- ---- what is told

pub unmapped : (f : SearchLeaf → WholeRun) (o : Option SearchLeaf) → option_map f o ≡ None → o ≡ None
unmapped f None e = refl
unmapped f (Some l) e = absurd cc

mapped_on : (f : SearchLeaf → WholeRun) (o p : Option SearchLeaf) (r : WholeRun) → ((l : SearchLeaf) → o ≡ Some l → p ≡ Some l) → option_map f o ≡ Some r → option_map f p ≡ Some r
mapped_on f None p r more e = absurd cc
mapped_on f (Some l) p r more e = ap (option_map f) (more l refl) ∙ e

pub states_tell : (x : Way) (before : List Step) (n : ℕ) (w : World) (g : Option Goal) (o : Outcomes) (found : Option WholeRun) (counts : WayCounts) → StopsRuns g n w o → g ≡ goal_of x
    → StopsFor (record { fuel = n; kept = STATES_KEPT; visited = STATES_VISITED; witnesses = OfNone; until = g }) o.firsts.more o.visited o.firsts.leaves.items
    → found ≡ option_map (whole_run before n w) (first_in x o.firsts.leaves.items)
    → ((fuel : ℕ) (v : World) (h : TellsRuns fuel v o) → counts ≡ counts_of (take h.runs (leaves_from fuel v)) o.firsts.more)
    → StatesTell x before n w (record { found = found; counts = counts; states = o.visited })
states_tell x before n w g o found counts h goal stops is counted =
    let f : SearchLeaf → WholeRun = whole_run before n w in
    let all : List SearchLeaf = leaves_from n w in
    let t : TellsRuns n w o = h.told in
    let seen : first_in x o.firsts.leaves.items ≡ first_in x (take t.runs all) = ap (first_in x) t.firsts_are ∙ first_of_firsts x (take t.runs all) in
    let told : counts ≡ counts_of (take t.runs all) o.firsts.more = counted n w t in
    let more : counts.more ≡ o.firsts.more = ap (λ (c : WayCounts). c.more) told in
    record {
      first = λ r e. mapped_on f (first_in x (take t.runs all)) (first_in x all) r (first_taken x t.runs all) (ap (option_map f) (sym seen) ∙ sym is ∙ e);
      all = λ none last.
          (let whole : take t.runs all ≡ all = take_all t.runs all (let le = not_less t.runs (length (wide_walk n w)) (sym t.more_is ∙ sym more ∙ last) in let many : length (map shown (wide_walk n w)) ≡ length (wide_walk n w) = length-map (wide_walk n w) shown in omega (arith, le, many)) in
          let nowhere : first_in x (take t.runs all) ≡ None = sym seen ∙ unmapped f (first_in x o.firsts.leaves.items) (sym is ∙ none) in (
            ap (λ (ls : List SearchLeaf). option_map f (first_in x ls)) (sym whole) ∙ ap (option_map f) nowhere,
            told ∙ (λ i. counts_of (whole i) ((sym more ∙ last) i)),
          ));
      stopped = λ none last.
          (let nowhere : first_in x o.firsts.leaves.items ≡ None = unmapped f (first_in x o.firsts.leaves.items) (sym is ∙ none) in
          let come : o.visited ≡ STATES_VISITED = by nowhere (stops (sym more ∙ last)) in
          let many : length (map shown (wide_walk n w)) ≡ length (wide_walk n w) = length-map (wide_walk n w) shown in
          let fewer : t.runs < length (wide_walk n w) = ltb-true t.runs (length (wide_walk n w)) (sym t.more_is ∙ sym more ∙ last) in
          let along : STATES_VISITED ≤ states_along (take (suc t.runs) all) = subst (λ (k : ℕ). k ≤ states_along (take (suc t.runs) all)) come h.few in
          (come, record { runs = t.runs; others = omega (arith, many, fewer); none = sym seen ∙ nowhere; along = along }));
    }
  where
    by : first_in x o.firsts.leaves.items ≡ None → (o.visited ≡ STATES_VISITED) ⊎ (ends_at g o.firsts.leaves.items ≡ true) → o.visited ≡ STATES_VISITED
    by none (inl e) = e
    by none (inr e) = absurd (let z : false ≡ true = sym (not_stopped_for x o.firsts.leaves.items none) ∙ ap (λ (q : Option Goal). ends_at q o.firsts.leaves.items) (sym goal) ∙ e in cc)

pub states_lie : (t u : Trail) (o : Option WholeRun) → u ≡ t → IfSome o (LiesAhead u) → IfSome o (LiesAhead t)
states_lie t u o same h = subst (λ y. IfSome o (LiesAhead y)) same h

pub found_after : (x : Way) (t u : Trail) (n : ℕ) (v w : World) (ls : List SearchLeaf) (o : Option WholeRun) → u ≡ t → v ≡ w → o ≡ option_map (whole_run (done_steps u) n v) (first_in x ls) → o ≡ option_map (whole_run (done_steps t) n w) (first_in x ls)
found_after x t u n v w ls o same here h = h ∙ (λ i. option_map (whole_run (done_steps (same i)) n (here i)) (first_in x ls))

pub ruleset telling = (states_tell, states_lie, found_after)
