use Rattle.std.proofs.Common.{◌≡◌, ◌-◌}
use Rattle.mpd_trail.specs.DebuggerViews.{standing_of}
use Rattle.mpd_explore.specs.Pieces.{pieces}
use Rattle.mpd_policy.specs.Walks.{Beyond}
use Rattle.mpd_explore.proofs.splitter.look_ahead.Given as goal

abbrev pub invariant-loop-depth : goal.invariant-loop-depth
invariant-loop-depth g l = record {
  depth : l.debugger.trail.depth ≡ l.depth;
  same : pieces g.S.Schedule.decides 1 (l.limit - l.fn.debugger.trail.depth) l.fn.debugger.world ≡ pieces g.S.Schedule.decides 1 (l.limit - l.depth) l.debugger.world;
  beyond : Beyond (standing_of l.fn.debugger) (standing_of l.debugger);
}
