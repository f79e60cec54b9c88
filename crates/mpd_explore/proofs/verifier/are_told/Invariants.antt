use Rattle.std.proofs.Common.{◌≡◌, drop}
use Rattle.std.specs.Cmp.Lexicographic.{pointwise}
use Rattle.mpd_explore.specs.Traps.{is_told}
use Rattle.mpd_explore.proofs.verifier.are_told.Given as goal

abbrev pub invariant-loop-number : goal.invariant-loop-number
invariant-loop-number l = pointwise is_told l.found l.told ≡ pointwise is_told (drop l.number l.found) (drop l.number l.told)
