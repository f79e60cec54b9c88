use Rattle.std.proofs.Common.{◌≡◌, ◌-◌, ◌++◌, map}
use Rattle.std.specs.List.{range_with_len}
use Rattle.mpd_adapter.specs.Looks.{rank_doing, doings_of}
use Rattle.mpd_adapter.proofs.looks.doings_of.Given as goal

abbrev pub invariant-loop-rank : goal.invariant-loop-rank
invariant-loop-rank l = l.list.items ++ map (rank_doing l.core.program l.core.world) (range_with_len l.rank (l.count - l.rank)) ≡ doings_of l.core.program l.core.world
