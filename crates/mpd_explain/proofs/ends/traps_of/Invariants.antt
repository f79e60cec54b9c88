use Rattle.std.proofs.Common.{◌≡◌, ◌++◌, drop, map}
use Rattle.mpd_explain.specs.Ends.{trap_of}
use Rattle.mpd_explain.proofs.ends.traps_of.Given as goal

abbrev pub invariant-loop-trapped : goal.invariant-loop-trapped
invariant-loop-trapped l = l.items.items ++ map (trap_of l.core.program l.core.world) (drop l.trapped-index l.traps) ≡ map (trap_of l.core.program l.core.world) l.traps
