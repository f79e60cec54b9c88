use Rattle.std.proofs.Common.{◌≡◌, ◌-◌, ◌++◌}
use Rattle.std.specs.List.{flat_map, range_with_len}
use Rattle.mpd_explain.specs.Lost.{lost_calls_of, lost_calls}
use Rattle.mpd_explain.proofs.lost.lost_calls.Given as goal

abbrev pub invariant-loop-rank : goal.invariant-loop-rank
invariant-loop-rank l = l.calls.items ++ flat_map (lost_calls_of l.core.world) (range_with_len l.rank (l.count - l.rank)) ≡ lost_calls l.core.world
