use Rattle.std.proofs.Common.{◌≡◌, drop}
use Rattle.std.specs.Cmp.Lexicographic.{pointwise}
use Rattle.mpd_explore.specs.Ends.{trapped_eq}
use Rattle.mpd_explore.proofs.same.same_traps.Given as goal

abbrev pub invariant-loop-number : goal.invariant-loop-number
invariant-loop-number l = pointwise trapped_eq l.one l.other ≡ pointwise trapped_eq (drop l.number l.one) (drop l.number l.other)
