use Rattle.std.proofs.Common.{◌≡◌, ◌-◌, ◌++◌}
use Rattle.std.specs.List.{flat_map, range_with_len}
use Rattle.mpd_explain.specs.Shown.{posted_of, posted_calls}
use Rattle.mpd_explain.proofs.looks.posted_calls.Given as goal

abbrev pub invariant-loop-rank : goal.invariant-loop-rank
invariant-loop-rank l = l.items.items ++ flat_map (posted_of l.core.program l.core.world.board) (range_with_len l.rank (l.count - l.rank)) ≡ posted_calls l.core.program l.core.world.board
