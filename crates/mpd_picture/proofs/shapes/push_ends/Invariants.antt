use Rattle.std.proofs.Common.{◌≡◌, ◌-◌, ◌++◌}
use Rattle.std.specs.List.{flat_map, range_with_len}
use Rattle.mpd_model.specs.steps.World.{rank_numbers}
use Rattle.mpd_picture.specs.Shapes.{end_shapes}
use Rattle.mpd_picture.proofs.shapes.push_ends.Given as goal

abbrev pub invariant-loop-rank : goal.invariant-loop-rank
invariant-loop-rank l = l.shapes.items ++ flat_map (end_shapes l.core.program l.core.world l.marks l.rows) (range_with_len l.rank (l.count - l.rank)) ≡ l.fn.shapes.items ++ flat_map (end_shapes l.core.program l.core.world l.marks l.rows) (rank_numbers l.core.world.board)
