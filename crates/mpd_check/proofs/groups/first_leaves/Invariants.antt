use Rattle.std.proofs.Common.{◌≡◌, take}
use Rattle.mpd_explore.specs.Ends.{firsts}
use Rattle.mpd_check.proofs.groups.first_leaves.Given as goal

abbrev pub invariant-loop-leaf : goal.invariant-loop-leaf
invariant-loop-leaf l = record { found : l.found.items ≡ firsts (take l.leaf-index l.leaves) }
