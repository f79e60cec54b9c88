use Rattle.std.proofs.Common.{◌≡◌, ◌++◌, map, drop}
use Rattle.mpd_diagnose.specs.Diagnosed.{one}
use Rattle.mpd_diagnose.proofs.diagnosis.ones.Given as goal

abbrev pub invariant-loop-leaf : goal.invariant-loop-leaf
invariant-loop-leaf l = l.counts.items ++ map one (drop l._leaf-index l.leaves) ≡ map one l.leaves
