use Rattle.std.proofs.Common.{◌≡◌, ◌-◌, ◌++◌}
use Rattle.std.specs.List.{flat_map, range_with_len}
use Rattle.mpd_explain.specs.Missed.{due_at, due}
use Rattle.mpd_explain.proofs.near_miss.due.Given as goal

abbrev pub invariant-loop-rank : goal.invariant-loop-rank
invariant-loop-rank l = l.found.items ++ flat_map (due_at l.core.world l.call) (range_with_len l.rank (l.count - l.rank)) ≡ due l.core.world l.call
