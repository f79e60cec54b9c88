use Rattle.std.proofs.Common.{◌≡◌, take, false}
use Rattle.mpd_explore.specs.Ends.{has_end}
use Rattle.mpd_outcomes.proofs.ways.way_of.Given as goal

abbrev pub invariant-loop-number : goal.invariant-loop-number
invariant-loop-number l = has_end (take l.number l.leaves) l.ending ≡ false
