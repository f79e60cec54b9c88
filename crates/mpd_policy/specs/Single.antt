-- The step that comes next where a single candidate is no choice.
use Rattle.std.specs.Prelude.{ℕ, List, [], ◌∷◌, Option, Some, None}
use Rattle.mpd_model.specs.declared.step.Step.{Step}
use Rattle.mpd_model.specs.declared.decision.Decision.{Decision}
use Rattle.mpd_model.specs.declared.decision.Decision.TheVariants.{Forced, Choice, Leaf}
use Rattle.mpd_model.specs.declared.breakpoint.Breakpoint.{Breakpoint}
use Rattle.mpd_model.specs.script.Program.{Program}
use Rattle.mpd_model.specs.steps.World.{World}
use Rattle.mpd_model.specs.runs.Decisions.{decision}
use Rattle.mpd_model.specs.runs.Running.{Ran, ran_along}

-- the step of a list of one
abbrev pub sole : List Step → Option Step
sole [] = None
sole (a ∷ []) = Some a
sole (a ∷ b ∷ steps) = None

-- the step that nobody has to choose, or the single candidate of a choice
abbrev pub single : Decision → Option Step
single (Forced a) = Some a
single (Choice steps) = sole steps
single (Leaf o) = None

abbrev pub only_step : World → Option Step
only_step w = single (decision w)

-- the same as a decision
abbrev pub forced_or : Decision → Option Step → Decision
forced_or d (Some a) = Forced a
forced_or d None = d

abbrev pub narrowed : World → Decision
narrowed w = forced_or (decision w) (only_step w)

-- a run that takes the single candidate of a choice as if it were forced
abbrev pub ran_on : Program → List (Option Breakpoint) → ℕ → ℕ → World → Ran
ran_on = ran_along narrowed
