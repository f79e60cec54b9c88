-- What is said of a witness that is written and read.
use Rattle.std.specs.Prelude.{◌<◌, ◌^◌, ◌++◌, ℕ, List, Option, Some, None, length}
use Rattle.std.specs.List.{AllByRecursion}
use Rattle.mpd_model.specs.declared.step.CallId.{CallId}
use Rattle.mpd_model.specs.declared.step.Step.{Step}
use Rattle.mpd_model.specs.declared.decision.Decision.{Decision}
use Rattle.mpd_model.specs.declared.step.Step.TheVariants.{Local, Match, Wake, WakeAny, Release}
use Rattle.mpd_model.specs.declared.outcome.TrappedRank.{TrappedRank}
use Rattle.mpd_model.specs.declared.outcome.Outcome.TheVariants.{Done, Leftovers, Deadlock, Trap}
use Rattle.mpd_model.specs.steps.World.{World}
use Rattle.mpd_model.specs.steps.Outcomes.{ids_of}
use Rattle.mpd_policy.specs.declared.ending.Ending.{Ending}
use Rattle.mpd_policy.specs.declared.ending.Ending.TheVariants.{Ended, Cut}
use Rattle.mpd_explore.specs.declared.report.SearchLeaf.{SearchLeaf}
use Rattle.mpd_explore.specs.declared.report.RankTrap.{RankTrap}
use Rattle.mpd_explore.specs.declared.report.WitnessEnd.{WitnessEnd}
use Rattle.mpd_explore.specs.declared.report.WitnessEnd.TheVariants as end_is
use Rattle.mpd_explore.specs.declared.report.EndWitness.{EndWitness}
use Rattle.mpd_policy.specs.Walk.{run_by, steps_by}
use Rattle.mpd_explore.specs.Witness.{witness_by}

-- its numbers have at most nine digits
abbrev pub IsShortCall : CallId → Type 0
IsShortCall c = (c.rank < 1000000000) × (c.index < 1000000000)

abbrev pub IsShortStep : Step → Type 0
IsShortStep (Local p) = p < 1000000000
IsShortStep (Match s r) = IsShortCall s × IsShortCall r
IsShortStep (Wake p) = p < 1000000000
IsShortStep (WakeAny p i) = (p < 1000000000) × (i < 1000000000)
IsShortStep Release = Unit {0}

-- a blocked call or a trapped rank at least
abbrev pub IsShortEnd : WitnessEnd → Type 0
IsShortEnd (end_is.Deadlock calls) = AllByRecursion IsShortCall calls × (0 < length calls)
IsShortEnd (end_is.Trap ranks) = AllByRecursion (λ (t : RankTrap). t.rank < 1000000000) ranks × (0 < length ranks)

-- a step, and a blocked call or a trapped rank at least, and no number of more than nine digits
pub record IsShort (x : EndWitness) : Type 0 where
  pub steps : AllByRecursion IsShortStep x.steps
  pub some_step : 0 < length x.steps
  pub end : IsShortEnd x.end

-- ---- a whole report

abbrev pub IsShortEnding : Ending → Type 0
IsShortEnding Cut = Unit {0}
IsShortEnding (Ended Done) = Unit {0}
IsShortEnding (Ended (Leftovers calls)) = AllByRecursion IsShortCall (ids_of calls)
IsShortEnding (Ended (Deadlock calls)) = AllByRecursion IsShortCall (ids_of calls)
IsShortEnding (Ended (Trap ranks)) = AllByRecursion (λ (t : TrappedRank). t.rank < 1000000000) ranks

abbrev pub AreShortSteps : Option EndWitness → Type 0
AreShortSteps None = Unit {0}
AreShortSteps (Some x) = AllByRecursion IsShortStep x.steps

-- the witness of a leaf, where it is a deadlock or a trap; what comes next along its run is told by a function
abbrev pub witness_at_leaf : (World → Decision) → List Step → ℕ → World → SearchLeaf → Option EndWitness
witness_at_leaf decide before fuel w l = witness_by (before ++ steps_by (run_by decide fuel l.choices w)) l.ending

-- no number of its lines has more than nine digits, but for its choices
pub record IsShortLeaf (decide : World → Decision) (before : List Step) (fuel : ℕ) (w : World) (l : SearchLeaf) : Type 0 where
  pub choices : AllByRecursion (λ c. c < 2 ^ 64) l.choices
  pub ending : IsShortEnding l.ending
  pub steps : AreShortSteps (witness_at_leaf decide before fuel w l)
