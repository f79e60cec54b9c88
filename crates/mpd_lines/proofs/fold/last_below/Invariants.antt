use Rattle.std.proofs.Common.{◌≡◌, ◌-◌}
use Rattle.mpd_lines.specs.Folding.{last_below}
use Rattle.mpd_lines.proofs.fold.last_below.Given as goal

abbrev pub invariant-loop-above : goal.invariant-loop-above
invariant-loop-above l = last_below l.line (l.bound - l.above) ≡ last_below l.line l.bound
