use Rattle.std.proofs.Common.{◌≡◌, ◌++◌, replicate}
use Rattle.mpd_outcomes.specs.declared.report.Count.TheVariants.{Exactly}
use Rattle.mpd_outcomes.proofs.sums.pad.Given as goal

abbrev pub invariant-loop-done : goal.invariant-loop-done
invariant-loop-done l = l.counts.items ≡ l.fn.counts.items ++ replicate l._done (Exactly 0)
