use Rattle.std.proofs.Common.{◌≡◌, ◌+◌, length}
use Rattle.mpd_witness.specs.ReadBack.{witness_from}
use Rattle.mpd_witness.proofs.report_lines.next_witness.Given as goal

abbrev pub invariant-loop-line : goal.invariant-loop-line
invariant-loop-line l = record {
  same : witness_from l.place l.lines ≡ witness_from l.first l.fn.lines;
  bound : l.place + length l.lines ≡ l.first + length l.fn.lines;
}

abbrev pub decreases-loop-line : goal.decreases-loop-line
decreases-loop-line l = length l.lines
