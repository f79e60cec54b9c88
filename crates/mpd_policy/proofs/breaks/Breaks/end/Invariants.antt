use Rattle.mpd_policy.proofs.PlaceLemmas.{EndsAt}
use Rattle.mpd_policy.proofs.breaks.Breaks.end.Given as goal

abbrev pub invariant-loop-number : goal.invariant-loop-number
invariant-loop-number l = EndsAt l.self l.end l.number
