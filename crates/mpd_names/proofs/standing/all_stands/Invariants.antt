use Rattle.std.proofs.Common.{◌≡◌, ◌-◌, ◌++◌}
use Rattle.std.specs.List.{flat_map, range_with_len}
use Rattle.mpd_names.specs.Stand.{stands_if, all_stands}
use Rattle.mpd_names.proofs.standing.all_stands.Given as goal

abbrev pub invariant-loop-rank : goal.invariant-loop-rank
invariant-loop-rank l = l.all.items ++ flat_map (stands_if l.core.program l.core.world) (range_with_len l.rank (l.count - l.rank)) ≡ all_stands l.core.program l.core.world
