use Rattle.std.proofs.Common.{◌≡◌, ◌++◌, drop, map}
use Rattle.mpd_explain.specs.Ends.{absence_of}
use Rattle.mpd_explain.proofs.ends.absences_of.Given as goal

abbrev pub invariant-loop-rank : goal.invariant-loop-rank
invariant-loop-rank l = l.items.items ++ map (absence_of l.core.program l.core.world) (drop l.rank-index l.ranks) ≡ map (absence_of l.core.program l.core.world) l.ranks
