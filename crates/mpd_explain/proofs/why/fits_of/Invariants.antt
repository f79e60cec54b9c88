use Rattle.std.proofs.Common.{◌≡◌, ◌++◌, drop, map}
use Rattle.mpd_explain.specs.Whys.{fit_of}
use Rattle.mpd_explain.proofs.why.fits_of.Given as goal

abbrev pub invariant-loop-call : goal.invariant-loop-call
invariant-loop-call l = l.items.items ++ map (fit_of l.core.program l.core.world) (drop l.call-index l.calls) ≡ map (fit_of l.core.program l.core.world) l.calls
