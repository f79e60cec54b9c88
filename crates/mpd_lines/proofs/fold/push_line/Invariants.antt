use Rattle.std.proofs.Common.{◌≡◌, ◌++◌, length}
use Rattle.mpd_lines.specs.Folding.{cut, laid, folded_line}
use Rattle.mpd_lines.proofs.fold.push_line.Given as goal

abbrev pub invariant-loop-place : goal.invariant-loop-place
invariant-loop-place l = l.out.items ++ laid l.fn.width (cut l.left l.rest) l.rest ≡ l.fn.out.items ++ folded_line l.fn.width l.line

abbrev pub decreases-loop-place : goal.decreases-loop-place
decreases-loop-place l = length l.rest
