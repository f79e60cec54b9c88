use Rattle.std.proofs.Common.{◌≡◌, drop}
use Rattle.mpd_runs.specs.Ways.{first_in}
use Rattle.mpd_runs.proofs.way.first_in.Given as goal

abbrev pub invariant-loop-leaf : goal.invariant-loop-leaf
invariant-loop-leaf l = first_in l.way (drop l.leaf-index l.leaves) ≡ first_in l.way l.leaves
