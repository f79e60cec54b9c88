-- What commands answer that tells all runs lists the leaves of a walk that has every end.
use Rattle.std.proofs.Common.{◌≡◌, ◌⊎◌, ◌+◌, ℕ, Bool, true, false, ◌||◌, nat_lt, not, cond, List, [], ◌∷◌, length, map, inl, inr, refl, sym, ap, ◌∙◌, arith}
use Rattle.std.specs.Prelude.{◌^◌}
use Rattle.std.specs.List.{list_any, AllByRecursion}
use Rattle.std.proofs.lemmas.Bool.{eqb-true}
use Rattle.std.proofs.lemmas.List.{take_all}
use Rattle.std.proofs.lemmas.List.Sums.{sum_by-cons}
use Rattle.mpd_model.specs.declared.call.Mode.{Mode}
use Rattle.mpd_model.specs.script.Program.{Program}
use Rattle.mpd_model.specs.steps.World.{World, start}
use Rattle.mpd_model.specs.runs.Trail.{Standing, IsReached, done_steps}
use Rattle.mpd_model.specs.declared.limits.TheConstants.{RUNS_MAX}
use Rattle.mpd_model.specs.declared.outcome.Outcome.TheVariants as outcome
use Rattle.mpd_policy.specs.declared.ending.Ending.{Ending}
use Rattle.mpd_policy.specs.declared.ending.Ending.TheVariants as ending
use Rattle.mpd_policy.specs.Walk.{wide_walk}
use Rattle.mpd_explore.specs.declared.report.SearchLeaf.{SearchLeaf}
use Rattle.mpd_explore.specs.declared.report.SearchLimits.{SearchLimits}
use Rattle.mpd_explore.specs.Sleeping.{walk_by, walk_of}
use Rattle.mpd_explore.specs.Report.{shown}
use Rattle.mpd_explore.proofs.ListedLemmas.{both_true, not_less}
use Rattle.mpd_explore.proofs.PieceLemmas.{no_more}
use Rattle.mpd_outcomes.specs.declared.report.Count.TheVariants.{Exactly, More}
use Rattle.mpd_outcomes.specs.Outcomes.{counted, leaves_from}
use Rattle.mpd_pool.specs.declared.pool.SearchPlan.{SearchPlan}
use Rattle.mpd_runs.specs.Drawn.{seeded, draws}
use Rattle.mpd_runs.proofs.UntilLemmas.{ended_all}
use Rattle.mpd_runs.specs.declared.way.Way.TheVariants as way
use Rattle.mpd_runs.specs.Ways.{way_of, same_way, ends_in, count_in}
use Rattle.mpd_runs.specs.declared.search.Scope.{Scope}
use Rattle.mpd_runs.specs.declared.search.Scope.TheVariants.{WideWalk, Listed}
use Rattle.mpd_runs.specs.Counts.{counts_of, is_count}
use Rattle.mpd_runs.specs.Runs.{fuel_at, all_runs, first_runs, are_more, sees_all}
use Rattle.mpd_runs.specs.Seek.{runs_in, counts_in}
use Rattle.mpd_check.specs.Tally.{tally_of, LeavesOutNone, TellsAll}
use Rattle.mpd_check.specs.Checked.{leaves_of, more_of}
use Rattle.mpd_check.proofs.WholeLemmas.{IsEnd, whole_tells}
use Rattle.mpd_check.specs.Listing.{sample_leaves, sample_more}
use Rattle.mpd_complete.specs.CompleteLaws.{HasNoWaitany, KeepsBuffers, was_cut}
use Rattle.mpd_complete.specs.Reported.{NoneIsCut, HaveAllOutcomes, BoundsAllRuns}
use Rattle.mpd_complete.proofs.Complete.{complete, sleeping_complete}
use Rattle.mpd_complete.proofs.Reports.{have_outcomes, bound_runs, said_by}

-- ---- none is cut

end_is : (e : Ending) → (e ≡ ending.Cut → ⊥) → was_cut e ≡ false
end_is ending.Cut h = absurd (h refl)
end_is (ending.Ended o) h = refl

pub all_end : (leaves : List SearchLeaf) → AllByRecursion IsEnd leaves → NoneIsCut leaves
all_end [] h = refl
all_end (l ∷ leaves) h = ap (λ (b : Bool). b || list_any (λ (x : SearchLeaf). was_cut x.ending) leaves) (end_is l.ending h.0) ∙ all_end leaves h.1

-- what the console counts
pub count_more : (l : SearchLeaf) (leaves : List SearchLeaf) → count_in way.Cut (l ∷ leaves) ≡ cond (ends_in way.Cut l) 1 0 + count_in way.Cut leaves
count_more l leaves = sum_by-cons (λ x. cond (ends_in way.Cut x) 1 0) l leaves

first_ends : (e : Ending) (n : ℕ) → cond (same_way way.Cut (way_of e)) 1 0 + n ≡ 0 → (was_cut e ≡ false) × (n ≡ 0)
first_ends ending.Cut n none = absurd (omega (arith, none))
first_ends (ending.Ended outcome.Done) n none = (refl, omega (arith, none))
first_ends (ending.Ended (outcome.Leftovers calls)) n none = (refl, omega (arith, none))
first_ends (ending.Ended (outcome.Deadlock calls)) n none = (refl, omega (arith, none))
first_ends (ending.Ended (outcome.Trap ranks)) n none = (refl, omega (arith, none))

none_cut : (leaves : List SearchLeaf) → count_in way.Cut leaves ≡ 0 → NoneIsCut leaves
none_cut [] none = refl
none_cut (l ∷ leaves) none =
    let both = first_ends l.ending (count_in way.Cut leaves) (sym (count_more l leaves) ∙ none) in
    ap (λ (b : Bool). b || list_any (λ (x : SearchLeaf). was_cut x.ending) leaves) both.0 ∙ none_cut leaves both.1

is_no : (b : Bool) → not b ≡ true → b ≡ false
is_no true e = cc
is_no false e = refl

pub is_none : (n : ℕ) → is_count 0 (counted n) ≡ true → n ≡ 0
is_none n e = by (nat_lt n (2 ^ 64)) e
  where
    by : (b : Bool) → is_count 0 (cond b (Exactly n) More) ≡ true → n ≡ 0
    by true f = eqb-true n 0 f
    by false f = absurd cc

pub sees_whole : (leaves : List SearchLeaf) (more : Bool) → sees_all (counts_of leaves more) ≡ true → (more ≡ false) × NoneIsCut leaves
sees_whole leaves more whole =
    let both = both_true (not more) (is_count 0 (counted (count_in way.Cut leaves))) whole in
    (is_no more both.0, none_cut leaves (is_none (count_in way.Cut leaves) both.1))

-- ---- what is answered

by_ends : (s : Program) (mode : Mode) (ends : Bool) → LeavesOutNone ends s mode → (ends ≡ true) ⊎ (HasNoWaitany s × KeepsBuffers mode)
by_ends s mode true h = inl refl
by_ends s mode false h = inr h

pub checks_tell : (s : Program) (mode : Mode) (plan : SearchPlan) → TellsAll plan.limits.ends s mode (tally_of (leaves_of s mode plan) (more_of s mode plan))
    → HaveAllOutcomes (leaves_of s mode plan) (start s mode) × BoundsAllRuns plan.limits.fuel (start s mode)
checks_tell s mode plan h =
    let l = plan.limits in
    let u : World = start s mode in
    let whole = whole_tells (leaves_of s mode plan) (more_of s mode plan) h.0 in
    let ends = all_end (leaves_of s mode plan) whole.1 in
    let are : leaves_of s mode plan ≡ map shown (walk_of l u) = no_more plan.split l u whole.0 in
    let said = said_by s mode [] u refl l.fuel l.ends (by_ends s mode l.ends h.1) in
    (have_outcomes l.fuel u (walk_of l u) said (leaves_of s mode plan) are ends, bound_runs l.fuel u (walk_of l u) said (leaves_of s mode plan) are ends)

pub samples_tell : (s : Program) (mode : Mode) (seed : ℕ) (l : SearchLimits) → TellsAll true s mode (tally_of (sample_leaves s mode seed l) (sample_more s mode seed l))
    → HaveAllOutcomes (sample_leaves s mode seed l) (start s mode) × BoundsAllRuns l.fuel (start s mode)
samples_tell s mode seed l h =
    let u : World = start s mode in
    let whole = whole_tells (sample_leaves s mode seed l) (sample_more s mode seed l) h.0 in
    let ends = all_end (sample_leaves s mode seed l) whole.1 in
    let are : sample_leaves s mode seed l ≡ map shown (wide_walk l.fuel u) = ended_all l.until_bad (draws l.until_bad l.fuel l.runs u (seeded seed)) l.fuel u (sample_leaves s mode seed l) (sample_more s mode seed l) refl refl whole.0 in
    let said = complete s mode [] u refl l.fuel in
    (have_outcomes l.fuel u (wide_walk l.fuel u) said (sample_leaves s mode seed l) are ends, bound_runs l.fuel u (wide_walk l.fuel u) said (sample_leaves s mode seed l) are ends)

pub consoles_see : (k : Scope) (d : Standing) → IsReached d → sees_all (counts_in k (fuel_at d.trail.depth) d.world) ≡ true
    → HaveAllOutcomes (runs_in k (fuel_at d.trail.depth) d.world) d.world × BoundsAllRuns (fuel_at d.trail.depth) d.world
consoles_see WideWalk d reached h =
    let fuel : ℕ = fuel_at d.trail.depth in
    let leaves : List SearchLeaf = leaves_from fuel d.world in
    let whole = sees_whole leaves false h in
    let said = complete d.trail.program d.trail.mode (done_steps d.trail) d.world reached.world fuel in
    (have_outcomes fuel d.world (wide_walk fuel d.world) said leaves refl whole.1, bound_runs fuel d.world (wide_walk fuel d.world) said leaves refl whole.1)
consoles_see Listed d reached h =
    let fuel : ℕ = fuel_at d.trail.depth in
    let leaves : List SearchLeaf = first_runs RUNS_MAX fuel d.world in
    let whole = sees_whole leaves (are_more RUNS_MAX fuel d.world) h in
    let are : leaves ≡ map shown (walk_by true fuel d.world) = take_all RUNS_MAX (all_runs fuel d.world) (not_less RUNS_MAX (length (all_runs fuel d.world)) whole.0) in
    let said = sleeping_complete d.trail.program d.trail.mode (done_steps d.trail) d.world reached.world fuel in
    (have_outcomes fuel d.world (walk_by true fuel d.world) said leaves are whole.1, bound_runs fuel d.world (walk_by true fuel d.world) said leaves are whole.1)
