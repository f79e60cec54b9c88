use Rattle.std.proofs.Common.{◌≡◌, ◌-◌, ◌++◌, map}
use Rattle.std.specs.List.{range_with_len}
use Rattle.mpd_model.specs.steps.World.{rank_numbers}
use Rattle.mpd_names.specs.Stand.{stand}
use Rattle.mpd_session.proofs.places.rank_lines.Given as goal

abbrev pub invariant-loop-rank : goal.invariant-loop-rank
invariant-loop-rank l = l.items.items ++ map (stand l.core.program l.core.world) (range_with_len l.rank (l.count - l.rank)) ≡ map (stand l.core.program l.core.world) (rank_numbers l.core.world.board)
