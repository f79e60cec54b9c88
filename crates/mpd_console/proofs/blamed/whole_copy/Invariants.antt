use Rattle.std.proofs.Common.{◌≡◌, ◌+◌}
use Rattle.mpd_console.proofs.blamed.whole_copy.Given as goal

abbrev pub invariant-loop-taken : goal.invariant-loop-taken
invariant-loop-taken l = record {
  program : l.copy.trail.program ≡ l.fn.debugger.trail.program;
  mode : l.copy.trail.mode ≡ l.fn.debugger.trail.mode;
  steps : l.copy.trail.steps ≡ l.fn.debugger.trail.steps;
  depth : l.copy.trail.depth ≡ l.fn.debugger.trail.depth + l._taken;
}
