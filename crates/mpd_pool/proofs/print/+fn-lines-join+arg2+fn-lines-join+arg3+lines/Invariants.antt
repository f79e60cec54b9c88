use Rattle.std.proofs.Common.{◌+◌}
use Rattle.mpd_pool.proofs.print.+fn-lines-join+arg2+fn-lines-join+arg3+lines.Given as goal

abbrev pub decreases-join+arg2 : goal.decreases-join+arg2
decreases-join+arg2 g l = l.half + l.half + 1

abbrev pub decreases-join+arg3 : goal.decreases-join+arg3
decreases-join+arg3 g l = l.others + l.others + 1

abbrev pub decreases-lines : goal.decreases-lines
decreases-lines g l = l.workers + l.workers
