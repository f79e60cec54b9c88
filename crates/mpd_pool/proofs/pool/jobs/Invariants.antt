use Rattle.std.proofs.Common.{◌≡◌, true, All, length}
use Rattle.crossbeam_deque.specs.Handles.{worker_deque, worker_view}
use Rattle.mpd_trail.specs.DebuggerViews.{standing_of}
use Rattle.mpd_pool.specs.Brought.{IsJob}
use Rattle.mpd_pool.proofs.pool.jobs.Given as goal

abbrev pub invariant-loop : goal.invariant-loop
invariant-loop l = record {
  jobs : All (IsJob (worker_deque l.owner) (standing_of l.debugger) l.limits l.pieces) l.jobs.items;
  same : worker_deque l.owner ≡ worker_deque l.fn.owner;
  live : (worker_view l.owner).live ≡ true;
  next : (worker_view l.owner).next ≡ length l.pieces;
}
