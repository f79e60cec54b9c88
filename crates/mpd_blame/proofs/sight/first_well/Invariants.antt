use Rattle.std.proofs.Common.{◌≡◌, drop}
use Rattle.std.specs.List.{find}
use Rattle.mpd_blame.specs.Blame.{ends_well}
use Rattle.mpd_blame.proofs.sight.first_well.Given as goal

abbrev pub invariant-loop-leaf : goal.invariant-loop-leaf
invariant-loop-leaf l = find ends_well (drop l.leaf-index l.leaves) ≡ find ends_well l.leaves
