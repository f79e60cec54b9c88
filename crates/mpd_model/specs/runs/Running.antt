-- Runs that go by themselves: forward along decisions, and back.
use Rattle.std.specs.Prelude.{ℕ, zero, suc, ◌+◌, ◌==◌, if◌then◌else◌, List, [], ◌∷◌, length, take, slice_get, Option, Some, None}
use Rattle.mpd_model.specs.declared.limits.TheConstants.{STEPS_MAX}
use Rattle.mpd_model.specs.declared.step.Step.{Step}
use Rattle.mpd_model.specs.declared.decision.Decision.{Decision}
use Rattle.mpd_model.specs.declared.decision.Decision.TheVariants as next_is
use Rattle.mpd_model.specs.declared.breakpoint.Breakpoint.{Breakpoint}
use Rattle.mpd_model.specs.declared.breakpoint.Cause.{Cause}
use Rattle.mpd_model.specs.declared.breakpoint.Cause.TheVariants as for
use Rattle.mpd_model.specs.declared.breakpoint.Stop.{Stop}
use Rattle.mpd_model.specs.script.Program.{Program}
use Rattle.mpd_model.specs.steps.World.{World, start}
use Rattle.mpd_model.specs.steps.Next.{next, fold}
use Rattle.mpd_model.specs.runs.Decisions.{decision}
use Rattle.mpd_model.specs.runs.Breakpoints.{lowest_hit}
use Rattle.mpd_model.specs.runs.Trail.{Trail, applied}

-- the steps that a run makes, and why it stops
pub record Ran : Type 0 where
  pub steps : List Step
  pub cause : Cause

abbrev pub stopped : Cause → Ran
stopped cause = record { steps = []; cause = cause }

-- a step, and what the run makes after it, where the step hits no breakpoint
abbrev pub behind : Step → Option ℕ → Ran → Ran
behind a (Some n) more = record { steps = a ∷ []; cause = for.Break n }
behind a None more = record { steps = a ∷ more.steps; cause = more.cause }

-- Before a step the run stops at a leaf, at a choice, and where so many steps are not undone.
abbrev pub ran_taking : (World → Ran) → Program → List (Option Breakpoint) → World → Step → Option World → Ran
ran_taking more s places w a None = stopped for.Leaf
ran_taking more s places w a (Some v) = behind a (lowest_hit s places w a v) (more v)

abbrev pub ran_by : (World → Ran) → Program → List (Option Breakpoint) → ℕ → World → Decision → Ran
ran_by more s places depth w (next_is.Forced a) = if depth == STEPS_MAX then stopped for.Full else ran_taking more s places w a (next w a)
ran_by more s places depth w (next_is.Choice steps) = stopped for.Choice
ran_by more s places depth w (next_is.Leaf o) = stopped for.Leaf

abbrev pub at_most : ℕ → Decision → Cause
at_most depth (next_is.Forced a) = if depth == STEPS_MAX then for.Full else for.Max
at_most depth (next_is.Choice steps) = for.Choice
at_most depth (next_is.Leaf o) = for.Leaf

-- a run of at most so many steps, from a world after so many steps, along what comes next in each world
abbrev pub ran_along : (World → Decision) → Program → List (Option Breakpoint) → ℕ → ℕ → World → Ran
ran_along comes s places zero depth w = stopped (at_most depth (comes w))
ran_along comes s places (suc n) depth w = ran_by (ran_along comes s places n (depth + 1)) s places depth w (comes w)

-- a run along decisions
abbrev pub ran : Program → List (Option Breakpoint) → ℕ → ℕ → World → Ran
ran = ran_along decision

-- a trail with these steps taken, one after another
abbrev pub all_applied : Trail → List Step → Trail
all_applied t [] = t
all_applied t (a ∷ steps) = all_applied (applied t a) steps

abbrev pub stop_of : Ran → Stop
stop_of r = record { steps = length r.steps; cause = r.cause }

-- ---- back

-- the world after the first so many steps of a trail
abbrev pub world_at : Trail → ℕ → Option World
world_at t n = fold (start t.program t.mode) (take n t.steps)

abbrev pub hit_of : Program → List (Option Breakpoint) → Option World → Option Step → Option World → Option ℕ
hit_of s places (Some old) (Some a) (Some new) = lowest_hit s places old a new
hit_of s places (Some old) (Some a) None = None
hit_of s places (Some old) None new = None
hit_of s places None a new = None

-- the lowest breakpoint that the step after the first so many hits
abbrev pub hit_at : List (Option Breakpoint) → Trail → ℕ → Option ℕ
hit_at places t n = hit_of t.program places (world_at t n) (slice_get t.steps n) (world_at t (n + 1))

abbrev pub one_back : Option ℕ → Stop → Stop
one_back (Some n) more = record { steps = 1; cause = for.Break n }
one_back None more = record { steps = more.steps + 1; cause = more.cause }

-- a run back from after so many steps: it undoes the last of them that hits a breakpoint, and all after that; or all of them
abbrev pub ran_back : List (Option Breakpoint) → Trail → ℕ → Stop
ran_back places t zero = record { steps = 0; cause = for.Start }
ran_back places t (suc n) = one_back (hit_at places t n) (ran_back places t n)
