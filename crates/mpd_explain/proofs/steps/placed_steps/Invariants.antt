use Rattle.std.proofs.Common.{◌≡◌, ◌++◌, drop, map}
use Rattle.mpd_explain.specs.Steps.{placed_step_of}
use Rattle.mpd_explain.proofs.steps.placed_steps.Given as goal

abbrev pub invariant-loop-step : goal.invariant-loop-step
invariant-loop-step l = l.items.items ++ map (placed_step_of l.core.program l.core.world) (drop l.step-index l.steps) ≡ map (placed_step_of l.core.program l.core.world) l.steps
