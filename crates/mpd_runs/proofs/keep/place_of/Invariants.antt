use Rattle.std.proofs.Common.{◌-◌, map}
use Rattle.mpd_runs.specs.Drawing.{in_box}
use Rattle.mpd_runs.proofs.KeepLemmas.{Searching}
use Rattle.mpd_runs.proofs.keep.place_of.Given as goal

abbrev pub invariant-loop-low : goal.invariant-loop-low
invariant-loop-low l = Searching l.choices (map in_box l.leaves) l.low l.high

abbrev pub decreases-loop-low : goal.decreases-loop-low
decreases-loop-low l = l.high - l.low
