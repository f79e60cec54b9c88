use Rattle.std.proofs.Common.{◌≡◌, ◌++◌, drop, map}
use Rattle.mpd_explain.specs.Ends.{wait_of}
use Rattle.mpd_explain.proofs.ends.waits_of.Given as goal

abbrev pub invariant-loop-call : goal.invariant-loop-call
invariant-loop-call l = l.items.items ++ map (wait_of l.core.program l.core.world) (drop l.call-index l.calls) ≡ map (wait_of l.core.program l.core.world) l.calls
