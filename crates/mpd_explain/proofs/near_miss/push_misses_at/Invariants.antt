use Rattle.std.proofs.Common.{◌≡◌, ◌-◌, ◌++◌}
use Rattle.std.specs.List.{flat_map, range_with_len}
use Rattle.mpd_model.specs.steps.World.{call_id}
use Rattle.mpd_explain.specs.Missed.{misses_with, misses_at}
use Rattle.mpd_explain.proofs.near_miss.push_misses_at.Given as goal

abbrev pub invariant-loop-index : goal.invariant-loop-index
invariant-loop-index l = l.out.items ++ flat_map (λ i. misses_with l.core.world.board l.call (call_id l.rank i)) (range_with_len l.index (l.count - l.index)) ≡ l.fn.out.items ++ misses_at l.core.world.board l.call l.rank
