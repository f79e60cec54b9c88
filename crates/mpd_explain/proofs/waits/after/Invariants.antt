use Rattle.std.proofs.Common.{◌≡◌}
use Rattle.mpd_explain.specs.Waits.{after}
use Rattle.mpd_explain.proofs.waits.after.Given as goal

abbrev pub invariant-loop-past : goal.invariant-loop-past
invariant-loop-past l = l.here ≡ after l.next l.rank l.past
