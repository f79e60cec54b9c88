use Rattle.std.proofs.Common.{◌≡◌, ◌-◌, [], ◌∷◌, ◌++◌}
use Rattle.std.specs.List.{filter, flat_map, range_with_len}
use Rattle.mpd_model.specs.steps.World.{call_id}
use Rattle.mpd_explain.specs.Lost.{is_lost, lost_calls_of}
use Rattle.mpd_explain.proofs.lost.list_lost_of.Given as goal

abbrev pub invariant-loop-index : goal.invariant-loop-index
invariant-loop-index l =
    l.calls.items ++ flat_map (λ i. call_id l.rank i ∷ []) (filter (λ i. is_lost l.core.world (call_id l.rank i)) (range_with_len l.index (l.count - l.index))) ≡ l.fn.calls.items ++ lost_calls_of l.core.world l.rank
