-- Which step one is with what it is about.
use Rattle.std.specs.Prelude.{◌≡◌}
use Rattle.mpd_model.specs.declared.step.Step.{Step}
use Rattle.mpd_model.specs.script.Program.{Program}
use Rattle.mpd_model.specs.steps.World.{World}
use Rattle.mpd_explain.specs.Steps.{placed_step_of, step_of}

-- A step with what it is about is that step, on any state. So the text of a placed step is that of the step.
abbrev pub PlacedStepsAreTheirSteps : Type 0
PlacedStepsAreTheirSteps = (s : Program) (w : World) (a : Step) → step_of (placed_step_of s w a) ≡ a
