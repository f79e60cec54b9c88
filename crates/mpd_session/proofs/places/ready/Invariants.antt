use Rattle.std.proofs.Common.{◌≡◌, ◌-◌, ◌++◌}
use Rattle.std.specs.List.{flat_map, range_with_len}
use Rattle.mpd_model.specs.steps.World.{rank_numbers}
use Rattle.mpd_session.specs.Looks.{if_ready}
use Rattle.mpd_session.proofs.places.ready.Given as goal

abbrev pub invariant-loop-rank : goal.invariant-loop-rank
invariant-loop-rank l = l.items.items ++ flat_map (if_ready l.core.world) (range_with_len l.rank (l.count - l.rank)) ≡ flat_map (if_ready l.core.world) (rank_numbers l.core.world.board)
