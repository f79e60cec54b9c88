use Rattle.std.proofs.Common.{◌≡◌, ◌+◌, ◌-◌, ◌≤◌, length, drop}
use Rattle.mpd_trace.specs.Spans.{length_before}
use Rattle.mpd_trace.proofs.span.length_before.Given as goal

abbrev pub invariant-loop-end : goal.invariant-loop-end
invariant-loop-end l = (l.end + length_before l.stop (drop l.end l.text) ≡ length_before l.stop l.text) × (l.end ≤ length l.text)

abbrev pub decreases-loop-end : goal.decreases-loop-end
decreases-loop-end l = length l.text - l.end
