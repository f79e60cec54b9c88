use Rattle.std.proofs.Common.{◌≡◌, drop}
use Rattle.mpd_explain.specs.Missed.{first_miss}
use Rattle.mpd_explain.proofs.near_miss.first_miss.Given as goal

abbrev pub invariant-loop-entry : goal.invariant-loop-entry
invariant-loop-entry l = first_miss l.wanted (drop l.entry-index l.misses) ≡ first_miss l.wanted l.misses
