use Rattle.std.proofs.Common.{◌≡◌, ◌-◌, ◌++◌}
use Rattle.std.specs.List.{flat_map, range_with_len}
use Rattle.mpd_model.specs.steps.World.{rank_numbers}
use Rattle.mpd_picture.specs.Ends.{absent_at}
use Rattle.mpd_picture.proofs.ends.absent_ranks.Given as goal

abbrev pub invariant-loop-rank : goal.invariant-loop-rank
invariant-loop-rank l = l.absent.items ++ flat_map (absent_at l.core.world) (range_with_len l.rank (l.count - l.rank)) ≡ flat_map (absent_at l.core.world) (rank_numbers l.core.world.board)
