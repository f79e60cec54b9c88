use Rattle.std.proofs.Common.{◌≡◌, ◌≤◌, true}
use Rattle.crossbeam_deque.specs.Handles.{worker_view, worker_index, worker_capacity}
use Rattle.mpd_pool.specs.Numbers.{hand}
use Rattle.mpd_pool.proofs.deque.filled.Given as goal

abbrev pub invariant-loop-number : goal.invariant-loop-number
invariant-loop-number l = (worker_view l.owner ≡ hand true true l.number) × (worker_index l.owner ≡ l.number) × (l.bound ≤ worker_capacity l.owner)
