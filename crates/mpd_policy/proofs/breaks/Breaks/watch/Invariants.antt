use Rattle.std.proofs.Common.{◌≡◌, length}
use Rattle.mpd_model.specs.declared.limits.TheConstants.{BREAKS_MAX}
use Rattle.mpd_policy.proofs.WatchLemmas.{WatchedSoFar}
use Rattle.mpd_policy.proofs.breaks.Breaks.watch.Given as goal

abbrev pub invariant-loop-number : goal.invariant-loop-number
invariant-loop-number l = (length l.values ≡ BREAKS_MAX) × WatchedSoFar l.core.world l.self l.number l.values
