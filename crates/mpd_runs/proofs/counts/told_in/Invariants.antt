use Rattle.std.proofs.Common.{◌≡◌}
use Rattle.std.specs.Slice.Iter.{iter_rest}
use Rattle.std.specs.Iterator.Adapters.{zip_first, zip_second}
use Rattle.mpd_outcomes.specs.declared.report.Count.TheVariants.{Exactly}
use Rattle.mpd_runs.specs.Counts.{with_told}
use Rattle.mpd_runs.proofs.counts.told_in.Given as goal

abbrev pub invariant-loop-first : goal.invariant-loop-first
invariant-loop-first l = with_told l.way l.sum (iter_rest (zip_first l.first-iterator)) (iter_rest (zip_second l.first-iterator)) ≡ with_told l.way (Exactly 0) l.firsts l.counts
