use Rattle.std.proofs.Common.{◌≡◌, ◌-◌, ◌++◌}
use Rattle.std.specs.List.{flat_map, range_with_len}
use Rattle.mpd_model.specs.steps.World.{rank_numbers}
use Rattle.mpd_picture.specs.Glyphs.{went_on}
use Rattle.mpd_picture.proofs.glyphs.push_all_went_on.Given as goal

abbrev pub invariant-loop-rank : goal.invariant-loop-rank
invariant-loop-rank l = l.glyphs.items ++ flat_map (went_on l.core.world.board l.row) (range_with_len l.rank (l.count - l.rank)) ≡ l.fn.glyphs.items ++ flat_map (went_on l.core.world.board l.row) (rank_numbers l.core.world.board)
