use Rattle.std.proofs.Common.{◌≡◌, ◌≤◌, ◌<◌, length, reverse, vec_len, []}
use Rattle.mpd_outcomes.specs.declared.report.Count.TheVariants.{Exactly}
use Rattle.mpd_outcomes.specs.Gathered.{gathered, gathered_total}
use Rattle.mpd_outcomes.proofs.explore.gather.Given as goal

abbrev pub invariant-loop-open : goal.invariant-loop-open
invariant-loop-open l = record {
  counts : gathered (reverse l.front.stack.items) l.front.sums.tally.counts.items l.all.counts.items ≡ gathered (reverse l.fn.front.stack.items) l.fn.front.sums.tally.counts.items [];
  total : gathered_total (reverse l.front.stack.items) l.front.sums.tally.total l.all.total ≡ gathered_total (reverse l.fn.front.stack.items) l.fn.front.sums.tally.total (Exactly 0);
  ways : l.front.ways ≡ l.fn.front.ways;
  fewer : length l.front.stack.items ≤ length l.fn.front.stack.items;
  some : 0 < length l.all.counts.items → 0 < length l.fn.front.stack.items;
}

abbrev pub decreases-loop-open : goal.decreases-loop-open
decreases-loop-open l = vec_len l.front.stack
