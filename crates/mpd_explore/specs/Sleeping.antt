-- Walks that take two steps which don't conflict in one order alone: a candidate that was tried is asleep below the later ones, and isn't
-- taken there until it wakes. What comes next in a state, which candidates are steps that are asleep, and which of these still are after a
-- step, is told by functions. `awake_by` has a switch: with `true` what was tried falls asleep, with `false` nothing does.
use Rattle.std.specs.Prelude.{ℕ, zero, suc, Bool, true, false, List, [], ◌∷◌, ◌++◌, map, Option}
use Rattle.std.specs.List.{list_any}
use Rattle.mpd_model.specs.declared.step.Step.{Step}
use Rattle.mpd_model.specs.declared.decision.Decision.{Decision}
use Rattle.mpd_model.specs.declared.decision.Decision.TheVariants.{Forced, Choice, Leaf}
use Rattle.mpd_model.specs.steps.World.{World}
use Rattle.mpd_model.specs.steps.Next.{next}
use Rattle.mpd_model.specs.runs.Trail.{step_eq}
use Rattle.mpd_model.specs.runs.Decisions.{decision}
use Rattle.mpd_policy.specs.Wide.{wide_decision, sleeps_on}
use Rattle.mpd_policy.specs.declared.ending.Ending.TheVariants.{Ended}
pub use Rattle.mpd_policy.specs.Asleep.{same_match, nothing_wakes}
use Rattle.mpd_policy.specs.Walk.{Run, here, stepped, chosen, runs_of, stopped, walk}
use Rattle.mpd_explore.specs.declared.report.SearchLimits.{SearchLimits}

-- ---- the walk

-- the runs after a step, none where it is asleep
abbrev pub awake_runs : Bool → (World → List Run) → Option World → List Run
awake_runs true runs o = []
awake_runs false runs o = runs_of runs o

-- what is asleep below the candidates after a step that was tried, where steps fall asleep
abbrev pub put_to_sleep : Bool → Step → List Step → List Step
put_to_sleep true a asleep = a ∷ asleep
put_to_sleep false a asleep = asleep

-- the runs by each of some candidates, of which the first is number i
abbrev pub branches_by : (Step → Step → Bool) → (World → Step → List Step → List Step) → Bool → (List Step → World → List Run) → World → List Step → ℕ → List Step → List Run
branches_by same keeps sleeps runs w asleep i [] = []
branches_by same keeps sleeps runs w asleep i (a ∷ more) =
    map (chosen i a) (awake_runs (list_any (same a) asleep) (runs (keeps w a asleep)) (next w a)) ++ branches_by same keeps sleeps runs w (put_to_sleep sleeps a asleep) (suc i) more

abbrev pub followed_by : (Step → Step → Bool) → (World → Step → List Step → List Step) → Bool → (List Step → World → List Run) → List Step → World → Decision → List Run
followed_by same keeps sleeps runs asleep w (Forced a) = map (stepped a) (runs_of (runs (keeps w a asleep)) (next w a))
followed_by same keeps sleeps runs asleep w (Choice candidates) = branches_by same keeps sleeps runs w asleep 0 candidates
followed_by same keeps sleeps runs asleep w (Leaf o) = here (Ended o) ∷ []

-- the leaves of the runs from a state with so much fuel, while these steps are asleep
unfoldable pub awake_by : (World → Decision) → (Step → Step → Bool) → (World → Step → List Step → List Step) → Bool → ℕ → List Step → World → List Run
awake_by decide same keeps sleeps zero asleep w = stopped (decide w)
awake_by decide same keeps sleeps (suc n) asleep w = followed_by same keeps sleeps (awake_by decide same keeps sleeps n) asleep w (decide w)

-- what is asleep at candidate number i of a choice, above which some steps are asleep: where steps fall asleep, the candidates before it too
abbrev pub put_off : Bool → ℕ → List Step → List Step → List Step
put_off sleeps zero candidates asleep = asleep
put_off sleeps (suc i) [] asleep = asleep
put_off sleeps (suc i) (a ∷ more) asleep = put_off sleeps i more (put_to_sleep sleeps a asleep)

-- ---- the walk that is asked for

-- What a walk goes by: what comes next in a state, which candidates are steps that are asleep, which of these still are after a step, and
-- whether candidates that were tried fall asleep.
pub record Rules : Type 0 where
  pub decides : World → Decision
  pub same : Step → Step → Bool
  pub keeps : World → Step → List Step → List Step
  pub sleeps : Bool

-- where every order is wanted, the decisions; where each end is wanted once, the wide ones
abbrev pub rules_by : Bool → Rules
rules_by false = record { decides = decision; same = same_match; keeps = nothing_wakes; sleeps = false }
rules_by true = record { decides = wide_decision; same = step_eq; keeps = sleeps_on; sleeps = true }

abbrev pub decides_by : Bool → World → Decision
decides_by ends = (rules_by ends).decides

-- the runs while some steps are asleep
abbrev pub walk_with : Rules → ℕ → List Step → World → List Run
walk_with r n asleep w = awake_by r.decides r.same r.keeps r.sleeps n asleep w

-- the wide walk that takes two steps which do not conflict in one order alone
abbrev pub sleeping_wide_walk : ℕ → World → List Run
sleeping_wide_walk fuel w = walk_with (rules_by true) fuel [] w

-- each end once, or every order
abbrev pub walk_by : Bool → ℕ → World → List Run
walk_by false fuel w = walk fuel w
walk_by true fuel w = sleeping_wide_walk fuel w

abbrev pub walk_of : SearchLimits → World → List Run
walk_of l w = walk_by l.ends l.fuel w
