use Rattle.std.proofs.Common.{◌≡◌, ◌+◌, ◌<◌, ◌^◌, None, length}
use Rattle.mpd_witness.specs.WitnessText.{parts_at}
use Rattle.mpd_witness.specs.ReadBack.{wrong_line}
use Rattle.mpd_witness.proofs.report_lines.wrong_line.Given as goal

abbrev pub invariant-loop-line : goal.invariant-loop-line
invariant-loop-line l = record {
  same : wrong_line l.number l.before l.lines ≡ wrong_line 1 None (parts_at 10 l.text);
  bound : l.number + length l.lines < 2 ^ 64;
}

abbrev pub decreases-loop-line : goal.decreases-loop-line
decreases-loop-line l = length l.lines
