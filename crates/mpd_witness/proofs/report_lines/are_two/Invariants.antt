use Rattle.std.proofs.Common.{◌≡◌, ◌≤◌, ◌+◌, length}
use Rattle.mpd_witness.specs.WitnessText.{parts_at}
use Rattle.mpd_witness.proofs.ReportLemmas.{filled_in}
use Rattle.mpd_witness.proofs.report_lines.are_two.Given as goal

abbrev pub invariant-loop-line : goal.invariant-loop-line
invariant-loop-line l = record {
  same : l.count + filled_in l.lines ≡ filled_in (parts_at 10 l.text);
  bound : l.count + length l.lines ≤ length l.text + 1;
}

abbrev pub decreases-loop-line : goal.decreases-loop-line
decreases-loop-line l = length l.lines
