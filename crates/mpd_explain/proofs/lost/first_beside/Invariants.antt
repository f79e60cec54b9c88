use Rattle.std.proofs.Common.{◌≡◌, drop}
use Rattle.mpd_explain.specs.Lost.{first_beside}
use Rattle.mpd_explain.proofs.lost.first_beside.Given as goal

abbrev pub invariant-loop-other : goal.invariant-loop-other
invariant-loop-other l = first_beside l.core.program l.core.world.board l.call (drop l.other-index l.calls) ≡ first_beside l.core.program l.core.world.board l.call l.calls
