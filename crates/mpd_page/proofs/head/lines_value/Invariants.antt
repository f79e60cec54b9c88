use Rattle.std.proofs.Common.{length}
use Rattle.mpd_page.proofs.head.lines_value.Given as goal

abbrev pub decreases-loop-line : goal.decreases-loop-line
decreases-loop-line l = length l.rest
