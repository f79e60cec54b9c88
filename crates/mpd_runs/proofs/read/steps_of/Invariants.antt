use Rattle.std.proofs.Common.{◌≡◌, ◌≤◌, ◌+◌, length}
use Rattle.mpd_model.specs.texts.Lines.{lines_of}
use Rattle.mpd_runs.specs.Read.{behind, steps_in}
use Rattle.mpd_runs.proofs.read.steps_of.Given as goal

abbrev pub invariant-loop-line : goal.invariant-loop-line
invariant-loop-line l = record {
  steps : behind l.steps.items (steps_in (l.above + 1) (lines_of l.rest)) ≡ steps_in 1 (lines_of l.text);
  few : l.above + length l.rest ≤ length l.text;
}

abbrev pub decreases-loop-line : goal.decreases-loop-line
decreases-loop-line l = length l.rest
