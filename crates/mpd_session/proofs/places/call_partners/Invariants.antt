use Rattle.std.proofs.Common.{◌≡◌, ◌-◌, ◌++◌, map}
use Rattle.std.specs.List.{range_with_len}
use Rattle.mpd_model.specs.steps.World.{call_id, call_numbers, partner}
use Rattle.mpd_session.proofs.places.call_partners.Given as goal

abbrev pub invariant-loop-index : goal.invariant-loop-index
invariant-loop-index l =
    l.items.items ++ map (λ i. partner l.core.world.board.sets (call_id l.rank i)) (range_with_len l.index (l.count - l.index))
    ≡ map (λ i. partner l.core.world.board.sets (call_id l.rank i)) (call_numbers l.core.world.board l.rank)
