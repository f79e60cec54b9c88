-- What a run does next, and where it stands in the end.
use Rattle.std.specs.Prelude.{◌≡◌, ℕ, ◌<◌, ◌≤◌, ◌==◌, ◌⊎◌, if◌then◌else◌, List, length, take, Option, Some, None, Result, Ok, Err}
use Rattle.mpd_model.specs.declared.limits.TheConstants.{STEPS_MAX}
use Rattle.mpd_model.specs.declared.decision.Decision.{Decision}
use Rattle.mpd_model.specs.declared.decision.Decision.TheVariants as next_is
use Rattle.mpd_model.specs.declared.breakpoint.Breakpoint.{Breakpoint}
use Rattle.mpd_model.specs.declared.breakpoint.Stop.{Stop}
use Rattle.mpd_model.specs.declared.breakpoint.Cause.TheVariants as for
use Rattle.mpd_model.specs.steps.World.{World}
use Rattle.mpd_model.specs.declared.step.Step.{Step}
use Rattle.mpd_model.specs.steps.Next.{fold}
use Rattle.mpd_model.specs.runs.Decisions.{forced_step, choices, decision}
use Rattle.mpd_model.specs.runs.Trail.{Standing, done_steps}
use Rattle.mpd_model.specs.runs.Running.{Ran, ran_along, stop_of, all_applied}
use Rattle.mpd_policy.specs.declared.runs.Ahead.{Ahead}
use Rattle.mpd_policy.specs.declared.runs.Ahead.TheVariants.{Take, Halt}
use Rattle.mpd_policy.specs.declared.runs.Taking.{Taking}
use Rattle.mpd_policy.specs.declared.runs.Taking.TheVariants as taking
use Rattle.mpd_policy.specs.Single.{narrowed}

-- what comes next, by what a run takes
abbrev pub comes : Taking → World → Decision
comes taking.Forced = decision
comes taking.Single = narrowed

abbrev pub forced_in : Decision → Option Step
forced_in (next_is.Forced a) = Some a
forced_in (next_is.Choice steps) = None
forced_in (next_is.Leaf o) = None

-- where candidates are listed to see what comes next
abbrev pub Lists : Taking → World → Type 0
Lists taking.Forced w = ⊥
Lists taking.Single w = (forced_step w ≡ None) × (0 < length (choices w))

-- where a run that makes so many steps may want memory on its way
abbrev pub Wants : Taking → ℕ → World → Type 0
Wants taking.Forced made w = 0 < made
Wants taking.Single made w = (0 < made) ⊎ ((forced_step w ≡ None) × (0 < length (choices w)))

-- what follows after so many steps, by the decision
abbrev pub ahead_of : ℕ → Decision → Ahead
ahead_of depth (next_is.Forced a) = if depth == STEPS_MAX then Halt for.Full else Take a
ahead_of depth (next_is.Choice steps) = Halt for.Choice
ahead_of depth (next_is.Leaf o) = Halt for.Leaf

abbrev pub ran_from : Taking → List (Option Breakpoint) → ℕ → Standing → Ran
ran_from t places max s = ran_along (comes t) s.trail.program places max s.trail.depth s.world

-- a run that has stopped
pub record Ended (t : Taking) (places : List (Option Breakpoint)) (max : ℕ) (old new : Standing) (halt : Stop) : Type 0 where
  pub stop : halt ≡ stop_of (ran_from t places max old)
  pub trail : new.trail ≡ all_applied old.trail (ran_from t places max old).steps
  pub world : fold old.world (ran_from t places max old).steps ≡ Some new.world

-- a run that was refused memory on its way: the steps before it still stand, and it was to make a step at least, or to list candidates
pub record Broken (t : Taking) (places : List (Option Breakpoint)) (max : ℕ) (old new : Standing) : Type 0 where
  pub begins : take old.trail.depth (done_steps new.trail) ≡ done_steps old.trail
  pub deeper : old.trail.depth ≤ new.trail.depth
  pub program : new.trail.program ≡ old.trail.program
  pub mode : new.trail.mode ≡ old.trail.mode
  pub makes : Wants t (length (ran_from t places max old).steps) old.world

abbrev pub Went : {E : Type 0} → Taking → List (Option Breakpoint) → ℕ → Standing → Standing → Result Stop E → Type 0
Went t places max old new (Ok stop) = Ended t places max old new stop
Went t places max old new (Err e) = Broken t places max old new
