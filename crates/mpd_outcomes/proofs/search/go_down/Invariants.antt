use Rattle.std.proofs.Common.{◌≡◌}
use Rattle.mpd_trail.specs.DebuggerViews.{standing_of}
use Rattle.mpd_policy.specs.Walks.{Beyond}
use Rattle.mpd_outcomes.specs.Front.{SameRuns}
use Rattle.mpd_outcomes.proofs.search.go_down.Given as goal

abbrev pub invariant-loop-depth : goal.invariant-loop-depth
invariant-loop-depth l = record {
  depth : l.debugger.trail.depth ≡ l.depth;
  same : SameRuns l.limit l.fn.debugger.trail.depth l.fn.debugger.world l.debugger.trail.depth l.debugger.world;
  beyond : Beyond (standing_of l.fn.debugger) (standing_of l.debugger);
}
