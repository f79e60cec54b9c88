use Rattle.std.proofs.Common.{◌≡◌, ◌+◌, ◌≤◌, drop}
use Rattle.mpd_explore.specs.Ends.{times}
use Rattle.mpd_check.proofs.groups.times.Given as goal

abbrev pub invariant-loop-other : goal.invariant-loop-other
invariant-loop-other l = record {
  few : l.count ≤ l.other-index;
  same : l.count + times (drop l.other-index l.leaves) l.leaf ≡ times l.leaves l.leaf;
}
