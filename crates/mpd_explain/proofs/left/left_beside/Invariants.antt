use Rattle.std.proofs.Common.{◌≡◌, ◌++◌, ◌-◌}
use Rattle.std.specs.List.{flat_map, range_with_len}
use Rattle.mpd_explain.specs.Left.{left_at, left_beside}
use Rattle.mpd_explain.proofs.left.left_beside.Given as goal

abbrev pub invariant-loop-rank : goal.invariant-loop-rank
invariant-loop-rank l = l.left.items ++ flat_map (left_at l.core.program l.core.world.board l.told) (range_with_len l.rank (l.count - l.rank)) ≡ left_beside l.core.program l.core.world.board l.told
