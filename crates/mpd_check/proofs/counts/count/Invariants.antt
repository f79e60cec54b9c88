use Rattle.std.proofs.Common.{◌≡◌, ◌+◌, ◌≤◌, count_by, drop}
use Rattle.mpd_check.specs.Tally.{is_of}
use Rattle.mpd_check.proofs.counts.count.Given as goal

abbrev pub invariant-loop-leaf : goal.invariant-loop-leaf
invariant-loop-leaf l = record {
  sum : l.found + count_by (is_of l.kind) (drop l.leaf-index l.leaves) ≡ count_by (is_of l.kind) l.leaves;
  few : l.found ≤ l.leaf-index;
}
