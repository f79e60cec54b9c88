use Rattle.std.proofs.Common.{ap}
use Rattle.mpd_pool.proofs.Keeps.{starts, pushes}
use Rattle.mpd_pool.proofs.deque.filled.Goals as goal

pub fifo_as-requires : goal.fifo_as-requires
fifo_as-requires c = starts

pub push_as-requires-clause-pushes : goal.push_as-requires-clause-pushes
push_as-requires-clause-pushes c =
    pushes _ _ _ (ap (λ v. v.pushes) c.loop-number.invariant.0) (ap (λ v. v.next) c.loop-number.invariant.0)
