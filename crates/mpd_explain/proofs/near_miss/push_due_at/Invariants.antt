use Rattle.std.proofs.Common.{◌≡◌, ◌-◌, ◌++◌}
use Rattle.std.specs.List.{flat_map, range_with_len}
use Rattle.mpd_model.specs.steps.World.{call_id}
use Rattle.mpd_explain.specs.Missed.{due_with, due_at}
use Rattle.mpd_explain.proofs.near_miss.push_due_at.Given as goal

abbrev pub invariant-loop-index : goal.invariant-loop-index
invariant-loop-index l = l.out.items ++ flat_map (λ i. due_with l.core.world l.call (call_id l.rank i)) (range_with_len l.index (l.count - l.index)) ≡ l.fn.out.items ++ due_at l.core.world l.call l.rank
