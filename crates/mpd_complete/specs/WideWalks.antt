-- Wide walks in which steps may be asleep: two steps that do not conflict are taken in one order
-- alone. A candidate that was tried is asleep below the later ones, until a step is taken that
-- conflicts with it, and isn't taken as long as it is asleep. `awake_wide_walk` has a switch: with
-- `true` what was tried falls asleep, with `false` nothing does.
use Rattle.std.specs.Prelude.{ℕ, Bool, List}
use Rattle.mpd_model.specs.declared.step.Step.{Step}
use Rattle.mpd_model.specs.declared.decision.Decision.{Decision}
use Rattle.mpd_model.specs.steps.World.{World}
use Rattle.mpd_model.specs.runs.Trail.{step_eq}
use Rattle.mpd_policy.specs.Wide.{wide_decision, sleeps_on}
use Rattle.mpd_policy.specs.Walk.{Run}
use Rattle.mpd_explore.specs.Sleeping.{branches_by, followed_by, awake_by}

-- the runs by each of some candidates
abbrev pub wide_branches : Bool → (List Step → World → List Run) → World → List Step → ℕ → List Step → List Run
wide_branches = branches_by step_eq sleeps_on

-- the runs after a decision
abbrev pub followed_wide : Bool → (List Step → World → List Run) → List Step → World → Decision → List Run
followed_wide = followed_by step_eq sleeps_on

-- the leaves of the runs from a state with so much fuel, while these steps are asleep
abbrev pub awake_wide_walk : Bool → ℕ → List Step → World → List Run
awake_wide_walk = awake_by wide_decision step_eq sleeps_on
