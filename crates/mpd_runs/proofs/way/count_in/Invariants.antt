use Rattle.std.proofs.Common.{◌≡◌, ◌+◌, ◌≤◌, count_by, drop}
use Rattle.mpd_runs.specs.Ways.{ends_in}
use Rattle.mpd_runs.proofs.way.count_in.Given as goal

abbrev pub invariant-loop-leaf : goal.invariant-loop-leaf
invariant-loop-leaf l = record {
  sum : l.count + count_by (ends_in l.way) (drop l.leaf-index l.leaves) ≡ count_by (ends_in l.way) l.leaves;
  few : l.count ≤ l.leaf-index;
}
