use Rattle.std.proofs.Common.{◌≡◌, ◌-◌, ◌++◌}
use Rattle.std.specs.List.{flat_map, range_with_len}
use Rattle.mpd_explain.specs.Missed.{misses_at, misses}
use Rattle.mpd_explain.proofs.near_miss.misses.Given as goal

abbrev pub invariant-loop-rank : goal.invariant-loop-rank
invariant-loop-rank l = l.found.items ++ flat_map (misses_at l.core.world.board l.call) (range_with_len l.rank (l.count - l.rank)) ≡ misses l.core.world.board l.call
