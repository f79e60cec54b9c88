use Rattle.std.proofs.Common.{ap}
use Rattle.mpd_pool.proofs.Keeps.{takes}
use Rattle.mpd_pool.proofs.work.work.Goals as goal

pub steal_as-requires-clause-table : goal.steal_as-requires-clause-table
steal_as-requires-clause-table g c = c.loop.invariant.table

pub steal_as-requires-clause-takes : goal.steal_as-requires-clause-takes
steal_as-requires-clause-takes g c = takes _ _ (ap (λ v. v.live) c.loop.invariant.knows)
