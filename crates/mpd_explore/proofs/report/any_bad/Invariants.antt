use Rattle.std.proofs.Common.{◌≡◌, drop}
use Rattle.mpd_explore.specs.Report.{any_bad}
use Rattle.mpd_explore.proofs.report.any_bad.Given as goal

abbrev pub invariant-loop-leaf : goal.invariant-loop-leaf
invariant-loop-leaf l = any_bad (drop l.leaf-index l.leaves) ≡ any_bad l.leaves
