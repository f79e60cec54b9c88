use Rattle.std.proofs.Common.{◌≡◌, ◌++◌, ◌-◌}
use Rattle.std.specs.List.{flat_map, range_with_len}
use Rattle.mpd_model.specs.steps.World.{call_id}
use Rattle.mpd_explain.specs.Left.{left_with, left_at}
use Rattle.mpd_explain.proofs.left.push_left_at.Given as goal

abbrev pub invariant-loop-index : goal.invariant-loop-index
invariant-loop-index l = l.left.items ++ flat_map (λ i. left_with l.core.program l.core.world.board l.told (call_id l.rank i)) (range_with_len l.index (l.count - l.index)) ≡ l.fn.left.items ++ left_at l.core.program l.core.world.board l.told l.rank
