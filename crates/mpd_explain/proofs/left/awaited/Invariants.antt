use Rattle.std.proofs.Common.{◌≡◌, ◌++◌, drop}
use Rattle.std.specs.List.{flat_map}
use Rattle.mpd_explain.specs.Left.{awaited_by, awaited}
use Rattle.mpd_explain.proofs.left.awaited.Given as goal

abbrev pub invariant-loop-call : goal.invariant-loop-call
invariant-loop-call l = l.calls.items ++ flat_map (awaited_by l.core.world) (drop l.call-index l.blocked) ≡ awaited l.core.world l.blocked
