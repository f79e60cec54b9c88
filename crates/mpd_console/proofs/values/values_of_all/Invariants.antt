use Rattle.std.proofs.Common.{◌≡◌, ◌-◌, ◌++◌}
use Rattle.std.specs.List.{flat_map, range_with_len}
use Rattle.mpd_model.specs.steps.World.{rank_numbers}
use Rattle.mpd_console.specs.Values.{value_at}
use Rattle.mpd_console.proofs.values.values_of_all.Given as goal

abbrev pub invariant-loop-rank : goal.invariant-loop-rank
invariant-loop-rank l =
    l.values.items ++ flat_map (value_at l.core.program l.core.world l.expr) (range_with_len l.rank (l.count - l.rank)) ≡ flat_map (value_at l.core.program l.core.world l.expr) (rank_numbers l.core.world.board)
