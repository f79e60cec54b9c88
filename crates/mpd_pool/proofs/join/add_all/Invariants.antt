use Rattle.std.proofs.Common.{◌≡◌, take}
use Rattle.mpd_trail.specs.DebuggerViews.{standing_of}
use Rattle.mpd_pool.specs.Parts.{Filled, IsJoined}
use Rattle.mpd_pool.proofs.join.add_all.Given as goal

abbrev pub invariant-loop-number : goal.invariant-loop-number
invariant-loop-number g l = record {
  same : standing_of l.debugger ≡ standing_of l.fn.debugger;
  filled : Filled (standing_of l.fn.debugger) l.task.limits l.task.pieces.now l.slots.items;
  joined : IsJoined (standing_of l.fn.debugger) l.task.limits (take l.number l.task.pieces.now) l.all;
}
