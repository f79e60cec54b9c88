use Rattle.std.proofs.Common.{◌≡◌, take}
use Rattle.mpd_outcomes.specs.Sums.{added}
use Rattle.mpd_outcomes.proofs.sums.add_counts.Given as goal

abbrev pub invariant-loop-number : goal.invariant-loop-number
invariant-loop-number l = l.counts.items ≡ added l.fn.counts.items (take l.number l.others)
