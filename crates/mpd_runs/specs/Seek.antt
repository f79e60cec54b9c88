-- The first run that ends in one way, the run of a number, and how these lie ahead of a trail. Choices are those of the wide walk.
use Rattle.std.specs.Prelude.{◌≡◌, ◌≤◌, ◌<◌, ℕ, suc, ◌-◌, Bool, true, false, ◌&&◌, is_none, if◌then◌else◌, List, ◌++◌, length, take, slice_get, Option, Some, None}
use Rattle.std.specs.Option.{option_map}
use Rattle.mpd_model.specs.declared.step.Step.{Step}
use Rattle.mpd_model.specs.steps.World.{World, start}
use Rattle.mpd_model.specs.steps.Next.{fold}
use Rattle.mpd_model.specs.steps.Outcomes.{outcome}
use Rattle.mpd_model.specs.runs.Trail.{Trail, done_steps, IsRun}
use Rattle.mpd_policy.specs.Wide.{wide_decision}
use Rattle.mpd_policy.specs.declared.ending.Ending.{Ending}
use Rattle.mpd_policy.specs.declared.ending.Ending.TheVariants.{Ended, Cut}
use Rattle.mpd_explore.specs.declared.report.SearchLeaf.{SearchLeaf}
use Rattle.mpd_policy.specs.Walk.{run_by, steps_by}
use Rattle.mpd_explore.specs.Report.{any_bad}
use Rattle.mpd_explore.specs.Witness.{WitnessBy}
use Rattle.mpd_model.specs.declared.limits.TheConstants.{RUNS_MAX}
use Rattle.mpd_outcomes.specs.declared.report.Goal.{Goal}
use Rattle.mpd_outcomes.specs.declared.report.Goal.TheVariants as goal
use Rattle.mpd_outcomes.specs.Goals.{states_along}
use Rattle.mpd_outcomes.specs.Outcomes.{leaves_from}
use Rattle.mpd_runs.specs.declared.counts.WayCounts.{WayCounts}
use Rattle.mpd_runs.specs.declared.states.ByStates.{ByStates}
use Rattle.mpd_runs.specs.declared.states.TheConstants.{STATES_VISITED}
use Rattle.mpd_runs.specs.declared.search.Search.{Search}
use Rattle.mpd_runs.specs.declared.search.Scope.{Scope}
use Rattle.mpd_runs.specs.declared.search.Scope.TheVariants.{WideWalk, Listed}
use Rattle.mpd_runs.specs.declared.search.Sought.{Sought}
use Rattle.mpd_runs.specs.declared.search.Sought.TheVariants.{Found, Nothing}
use Rattle.mpd_runs.specs.declared.search.WholeRun.{WholeRun}
use Rattle.mpd_runs.specs.declared.way.Way.{Way}
use Rattle.mpd_runs.specs.declared.way.Way.TheVariants as way
use Rattle.mpd_runs.specs.Ways.{first_in}
use Rattle.mpd_runs.specs.Counts.{counts_of}
use Rattle.mpd_runs.specs.Runs.{fuel_at, all_runs, first_runs, are_more, is_number}

-- ---- the first run that ends so

-- runs up to the first deadlock or trap are too few where one is there, and none is looked for
abbrev pub falls_short : Way → List SearchLeaf → Bool
falls_short x leaves = any_bad leaves && is_none (first_in x leaves)

-- It was looked at far enough: the first such run is found, or all of the first runs are known.
pub record Looked (x : Way) (fuel : ℕ) (w : World) (leaves : List SearchLeaf) (others : Bool) : Type 0 where
  pub first : first_in x leaves ≡ first_in x (first_runs RUNS_MAX fuel w)
  pub all : first_in x leaves ≡ None → leaves ≡ first_runs RUNS_MAX fuel w
  pub rest : first_in x leaves ≡ None → others ≡ are_more RUNS_MAX fuel w

-- The runs that are looked at: all of the wide walk, by coming to each state once, or the first of those that are listed; and whether
-- there are more.
abbrev pub runs_in : Scope → ℕ → World → List SearchLeaf
runs_in WideWalk fuel w = leaves_from fuel w
runs_in Listed fuel w = first_runs RUNS_MAX fuel w

abbrev pub more_in : Scope → ℕ → World → Bool
more_in WideWalk fuel w = false
more_in Listed fuel w = are_more RUNS_MAX fuel w

abbrev pub counts_in : Scope → ℕ → World → WayCounts
counts_in k fuel w = counts_of (runs_in k fuel w) (more_in k fuel w)

-- ---- from the start of the script

-- some steps and those of a run from there, and how it ends
abbrev pub whole_run : List Step → ℕ → World → SearchLeaf → WholeRun
whole_run before fuel w l = record { steps = before ++ steps_by (run_by wide_decision fuel l.choices w); ending = l.ending }

-- the first of the runs that are looked at which ends so, after some steps
abbrev pub found_in : Scope → Way → List Step → ℕ → World → Option WholeRun
found_in k x before fuel w = option_map (whole_run before fuel w) (first_in x (runs_in k fuel w))

abbrev pub found_run : Scope → Way → Trail → World → Option WholeRun
found_run k x t w = found_in k x (done_steps t) (fuel_at t.depth) w

-- the run of a number, from 1
abbrev pub numbered_run : ℕ → Trail → World → Option WholeRun
numbered_run n t w = if is_number n then option_map (whole_run (done_steps t) (fuel_at t.depth) w) (slice_get (all_runs (fuel_at t.depth) w) (n - 1)) else None

-- ---- what lies ahead

-- how a world is to which a run leads: it has ended so, or, where the run was cut, it hasn't
abbrev pub EndsAs : World → Ending → Type 0
EndsAs w (Ended o) = outcome w ≡ Some o
EndsAs w Cut = outcome w ≡ None

-- where some steps lead from a world
pub record LeadsTo (w : World) (steps : List Step) (e : Ending) : Type 0 where
  pub last : World
  pub leads : fold w steps ≡ Some last
  pub ends : EndsAs last e

-- A run that begins with the steps of a trail that are not undone. It leads to a world that ends as it says; where that is a deadlock or a
-- trap, its steps are a witness of it.
pub record LiesAhead (t : Trail) (r : WholeRun) : Type 0 where
  pub begins : take t.depth r.steps ≡ done_steps t
  pub run : IsRun t.program t.mode r.steps
  pub ends : LeadsTo (start t.program t.mode) r.steps r.ending
  pub witness : WitnessBy t.program t.mode r.steps r.ending

-- ---- what came of it

-- the run that was found is the first that ends so, or none does, and so the runs end that were looked at
abbrev pub IsSoughtFrom : Scope → Way → List Step → ℕ → World → Sought → Type 0
IsSoughtFrom k x before fuel w (Found r) = found_in k x before fuel w ≡ Some r
IsSoughtFrom k x before fuel w (Nothing counts) = (found_in k x before fuel w ≡ None) × (counts ≡ counts_in k fuel w)

abbrev pub IsSought : Scope → Way → Trail → World → Sought → Type 0
IsSought k x t w q = IsSoughtFrom k x (done_steps t) (fuel_at t.depth) w q

-- the run that was found lies ahead
abbrev pub FoundLies : Trail → Sought → Type 0
FoundLies t (Found r) = LiesAhead t r
FoundLies t (Nothing counts) = Unit {0}

-- As many states as may be come to stand along the first of all runs, of which none ends so, and the next one.
pub record TooMany (x : Way) (fuel : ℕ) (w : World) : Type 0 where
  pub runs : ℕ
  pub others : runs < length (leaves_from fuel w)
  pub none : first_in x (take runs (leaves_from fuel w)) ≡ None
  pub along : STATES_VISITED ≤ states_along (take (suc runs) (leaves_from fuel w))

-- What is listed is looked at only where as many states were come to as may be.
abbrev pub IsSearch : Way → Trail → World → Search → Type 0
IsSearch x t w s = IsSought s.scope x t w s.sought × (s.scope ≡ Listed → (s.states ≡ STATES_VISITED) × TooMany x (fuel_at t.depth) w)

-- ---- by states

-- the end that the search stops for
abbrev pub goal_of : Way → Option Goal
goal_of way.Deadlock = Some goal.Deadlock
goal_of way.Trap = Some goal.Trap
goal_of other = None

-- What coming to each state once has found: a run is the first of all runs that ends so. Where none was found, none of all runs ends so,
-- unless as many states were come to as may be.
pub record StatesTell (x : Way) (before : List Step) (fuel : ℕ) (w : World) (b : ByStates) : Type 0 where
  pub first : (r : WholeRun) → b.found ≡ Some r → found_in WideWalk x before fuel w ≡ Some r
  pub all : b.found ≡ None → b.counts.more ≡ false → (found_in WideWalk x before fuel w ≡ None) × (b.counts ≡ counts_in WideWalk fuel w)
  pub stopped : b.found ≡ None → b.counts.more ≡ true → (b.states ≡ STATES_VISITED) × TooMany x fuel w
