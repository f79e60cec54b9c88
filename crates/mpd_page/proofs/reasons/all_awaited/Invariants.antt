use Rattle.std.proofs.Common.{◌≡◌, ◌++◌, drop, map}
use Rattle.mpd_page.specs.Reasons.{awaited}
use Rattle.mpd_page.proofs.reasons.all_awaited.Given as goal

abbrev pub invariant-loop-call : goal.invariant-loop-call
invariant-loop-call l = l.items.items ++ map (awaited l.core.world.board) (drop l.call-index l.calls) ≡ map (awaited l.core.world.board) l.calls
