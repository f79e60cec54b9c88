use Rattle.std.proofs.Common.{◌≡◌, ◌++◌, drop, map}
use Rattle.mpd_names.specs.Placed.{placed_call_of}
use Rattle.mpd_explain.proofs.left.placed_calls.Given as goal

abbrev pub invariant-loop-call : goal.invariant-loop-call
invariant-loop-call l = l.placed.items ++ map (placed_call_of l.core.program l.core.world.board) (drop l.call-index l.calls) ≡ map (placed_call_of l.core.program l.core.world.board) l.calls
