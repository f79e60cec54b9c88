use Rattle.std.proofs.Common.{◌≡◌, true, false, length}
use Rattle.crossbeam_deque.specs.Handles.{view, IsPassOf, stealer_deque}
use Rattle.mpd_trail.specs.DebuggerViews.{standing_of}
use Rattle.mpd_pool.specs.Numbers.{hand}
use Rattle.mpd_pool.specs.Brought.{AllRight}
use Rattle.mpd_pool.proofs.work.work.Given as goal

abbrev pub invariant-loop : goal.invariant-loop
invariant-loop g l = record {
  table : IsPassOf (stealer_deque l.thief) l.pass;
  knows : view l.pass ≡ hand false true (length l.task.pieces.now);
  same : standing_of l.debugger ≡ standing_of l.initial.debugger;
  right : AllRight (standing_of l.initial.debugger) l.task.limits l.task.pieces.now l.brought.items;
}
