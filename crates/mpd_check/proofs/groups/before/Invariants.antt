use Rattle.std.proofs.Common.{◌≡◌, ◌+◌, drop}
use Rattle.mpd_explore.specs.Ends.{before}
use Rattle.mpd_check.proofs.groups.before.Given as goal

abbrev pub invariant-loop-other : goal.invariant-loop-other
invariant-loop-other l = record {
  count : l.count ≡ l.other-index;
  same : l.count + before (drop l.other-index l.leaves) l.leaf ≡ before l.leaves l.leaf;
}
