use Rattle.std.proofs.Common.{◌≡◌, ◌++◌, drop}
use Rattle.std.specs.List.{flat_map}
use Rattle.mpd_explain.specs.Lost.{loss_at}
use Rattle.mpd_explain.proofs.lost.losses.Given as goal

abbrev pub invariant-loop-call : goal.invariant-loop-call
invariant-loop-call l =
    l.losses.items ++ flat_map (loss_at l.core.program l.core.world.board l.before l.calls) (drop l.call-index l.calls) ≡ flat_map (loss_at l.core.program l.core.world.board l.before l.calls) l.calls
