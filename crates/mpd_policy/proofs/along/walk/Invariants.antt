use Rattle.std.proofs.Common.{◌≡◌}
use Rattle.mpd_trail.specs.DebuggerViews.{standing_of}
use Rattle.mpd_policy.specs.Walks.{Beyond, Gone}
use Rattle.mpd_policy.proofs.along.walk.Given as goal

abbrev pub invariant-loop-depth : goal.invariant-loop-depth
invariant-loop-depth g l = record {
  depth : l.debugger.trail.depth ≡ l.depth;
  gone : Gone g.S.Schedule.decides g.C.Chooser.takes g.C.Chooser.passes (standing_of l.fn.debugger) l.fn.chooser (standing_of l.debugger) l.chooser;
  beyond : Beyond (standing_of l.fn.debugger) (standing_of l.debugger);
}
