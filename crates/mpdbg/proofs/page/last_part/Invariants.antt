use Rattle.std.proofs.Common.{length}
use Rattle.mpdbg.proofs.page.last_part.Given as goal

abbrev pub decreases-loop-place : goal.decreases-loop-place
decreases-loop-place l = length l.rest
