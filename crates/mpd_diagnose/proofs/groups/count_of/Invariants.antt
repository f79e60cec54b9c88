use Rattle.std.proofs.Common.{◌≡◌, drop}
use Rattle.mpd_outcomes.specs.declared.report.Count.TheVariants.{Exactly}
use Rattle.mpd_diagnose.specs.Groups.{with_counts}
use Rattle.mpd_diagnose.proofs.groups.count_of.Given as goal

abbrev pub invariant-loop-number : goal.invariant-loop-number
invariant-loop-number l = with_counts l.counts l.sum (drop l.number-index l.numbers) ≡ with_counts l.counts (Exactly 0) l.numbers
