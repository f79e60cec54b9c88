use Rattle.std.proofs.Common.{◌≡◌, ◌++◌, drop, map}
use Rattle.mpd_explore.specs.Witness.{rank_trap}
use Rattle.mpd_explore.proofs.ends.rank_traps.Given as goal

abbrev pub invariant-loop-trapped : goal.invariant-loop-trapped
invariant-loop-trapped l = l.items.items ++ map rank_trap (drop l.trapped-index l.ranks) ≡ map rank_trap l.ranks
