use Rattle.std.proofs.Common.{◌≡◌, ◌-◌, ◌++◌}
use Rattle.std.specs.List.{filter, range_with_len}
use Rattle.mpd_model.specs.steps.World.{rank_numbers}
use Rattle.mpd_explain.specs.Waits.{is_awaited}
use Rattle.mpd_explain.proofs.waits.awaited_by.Given as goal

abbrev pub invariant-loop-rank : goal.invariant-loop-rank
invariant-loop-rank l = l.ranks.items ++ filter (is_awaited l.core.world.board l.call l.calls) (range_with_len l.rank (l.count - l.rank)) ≡ filter (is_awaited l.core.world.board l.call l.calls) (rank_numbers l.core.world.board)
