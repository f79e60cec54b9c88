use Rattle.std.proofs.Common.{◌≡◌, ◌+◌, length}
use Rattle.mpd_witness.specs.ReadBack.{leaf_from}
use Rattle.mpd_witness.proofs.report_lines.next_leaf.Given as goal

abbrev pub invariant-loop-line : goal.invariant-loop-line
invariant-loop-line l = record {
  same : leaf_from l.number l.place l.lines ≡ leaf_from l.number 0 l.fn.lines;
  bound : l.place + length l.lines ≡ length l.fn.lines;
}

abbrev pub decreases-loop-line : goal.decreases-loop-line
decreases-loop-line l = length l.lines
