use Rattle.std.proofs.Common.{◌≡◌, ◌++◌, length}
use Rattle.mpd_lines.specs.Folding.{folded_at}
use Rattle.mpd_lines.proofs.fold.push_folded_at.Given as goal

abbrev pub invariant-loop-line : goal.invariant-loop-line
invariant-loop-line l = l.out.items ++ folded_at l.fn.width l.rest ≡ l.fn.out.items ++ folded_at l.fn.width l.text

abbrev pub decreases-loop-line : goal.decreases-loop-line
decreases-loop-line l = length l.rest
