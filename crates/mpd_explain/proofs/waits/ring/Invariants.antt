use Rattle.std.proofs.Common.{◌≡◌, ◌-◌, ◌++◌}
use Rattle.std.specs.List.{flat_map, range_with_len}
use Rattle.mpd_explain.specs.Waits.{after, step_ranks, ring}
use Rattle.mpd_explain.proofs.waits.ring.Given as goal

abbrev pub invariant-loop-past : goal.invariant-loop-past
invariant-loop-past l = l.ranks.items ++ flat_map (λ k. step_ranks (after l.next l.rank k)) (range_with_len l.past (l.count - l.past)) ≡ ring l.next l.rank l.count
