use Rattle.std.proofs.Common.{◌≡◌, ◌++◌, drop, map}
use Rattle.mpd_explain.specs.Ends.{awaited_of}
use Rattle.mpd_explain.proofs.ends.awaited_list.Given as goal

abbrev pub invariant-loop-rank : goal.invariant-loop-rank
invariant-loop-rank l = l.items.items ++ map (awaited_of l.core.world) (drop l.rank-index l.ranks) ≡ map (awaited_of l.core.world) l.ranks
