use Rattle.std.proofs.Common.{◌≡◌, drop}
use Rattle.std.specs.List.{list_all}
use Rattle.mpd_blame.specs.Blame.{ends_badly}
use Rattle.mpd_blame.proofs.sight.all_badly.Given as goal

abbrev pub invariant-loop-leaf : goal.invariant-loop-leaf
invariant-loop-leaf l = list_all ends_badly (drop l.leaf-index l.leaves) ≡ list_all ends_badly l.leaves
