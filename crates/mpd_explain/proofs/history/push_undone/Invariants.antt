use Rattle.std.proofs.Common.{◌≡◌, ◌++◌, drop}
use Rattle.mpd_explain.specs.Past.{past_steps}
use Rattle.mpd_explain.proofs.history.push_undone.Given as goal

abbrev pub invariant-loop-place : goal.invariant-loop-place
invariant-loop-place l = record {
  program : l.debugger.trail.program ≡ l.fn.debugger.trail.program;
  steps : l.debugger.trail.steps ≡ l.fn.debugger.trail.steps;
  depth : l.debugger.trail.depth ≡ l.place;
  listed : l.steps.items ++ past_steps l.fn.debugger.trail.program l.debugger.world (drop l.place l.fn.debugger.trail.steps) ≡ l.fn.steps.items ++ past_steps l.fn.debugger.trail.program l.fn.debugger.world (drop l.fn.debugger.trail.depth l.fn.debugger.trail.steps);
}
