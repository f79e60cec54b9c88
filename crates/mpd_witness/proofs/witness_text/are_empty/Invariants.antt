use Rattle.std.proofs.Common.{◌≡◌, length}
use Rattle.mpd_witness.specs.WitnessText.{all_empty}
use Rattle.mpd_witness.proofs.witness_text.are_empty.Given as goal

abbrev pub invariant-loop-line : goal.invariant-loop-line
invariant-loop-line l = all_empty l.fn.lines ≡ all_empty l.lines

abbrev pub decreases-loop-line : goal.decreases-loop-line
decreases-loop-line l = length l.lines
