use Rattle.std.proofs.Common.{◌≡◌, ◌-◌, ◌++◌}
use Rattle.std.specs.List.{flat_map, range_with_len}
use Rattle.mpd_model.specs.steps.World.{rank_numbers}
use Rattle.mpd_picture.specs.Shapes.{lane_shapes}
use Rattle.mpd_picture.proofs.shapes.push_lanes.Given as goal

abbrev pub invariant-loop-rank : goal.invariant-loop-rank
invariant-loop-rank l = l.shapes.items ++ flat_map (lane_shapes l.rows) (range_with_len l.rank (l.count - l.rank)) ≡ l.fn.shapes.items ++ flat_map (lane_shapes l.rows) (rank_numbers l.core.world.board)
