use Rattle.std.proofs.Common.{◌≡◌, ◌++◌, drop, map}
use Rattle.mpd_explain.specs.Wishes.{wish_of}
use Rattle.mpd_explain.proofs.near_miss.wishes.Given as goal

abbrev pub invariant-loop-call : goal.invariant-loop-call
invariant-loop-call l = l.all.items ++ map (wish_of l.core.program l.core.world) (drop l.call-index l.calls) ≡ map (wish_of l.core.program l.core.world) l.calls
