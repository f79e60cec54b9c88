use Rattle.std.proofs.Common.{length, ◌≡◌, ◌+◌, false}
use Rattle.mpd_trace.specs.Ranks.{before_digit}
use Rattle.mpd_trace.proofs.text.before_digit.Given as goal

abbrev pub invariant-loop-rest : goal.invariant-loop-rest
invariant-loop-rest l = (l.count + before_digit l.in_comment l.rest ≡ before_digit false l.fn.text) × (l.count + length l.rest ≡ length l.fn.text)

abbrev pub decreases-loop-rest : goal.decreases-loop-rest
decreases-loop-rest l = length l.rest
