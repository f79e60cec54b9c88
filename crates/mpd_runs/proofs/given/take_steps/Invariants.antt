use Rattle.std.proofs.Common.{◌≡◌, ◌++◌, take, Some}
use Rattle.mpd_model.specs.steps.Next.{fold}
use Rattle.mpd_model.specs.runs.Trail.{done_steps}
use Rattle.mpd_runs.proofs.given.take_steps.Given as goal

abbrev pub invariant-loop-step : goal.invariant-loop-step
invariant-loop-step l = record {
  place : l.place ≡ l.step-index;
  taken : done_steps l.debugger.trail ≡ done_steps l.fn.debugger.trail ++ take l.step-index l.steps;
  leads : fold l.fn.debugger.world (take l.step-index l.steps) ≡ Some l.debugger.world;
}
