use Rattle.std.proofs.Common.{◌≡◌, ◌+◌, ◌≤◌, ◌++◌, drop}
use Rattle.mpd_picture.specs.Shapes.{candidates_from}
use Rattle.mpd_picture.proofs.candidates.push_listed.Given as goal

abbrev pub invariant-loop-step : goal.invariant-loop-step
invariant-loop-step l = record {
  shapes : l.shapes.items ++ candidates_from l.core.program l.core.world l.marks (l.before + 1) (drop l.step-index l.steps) ≡ l.fn.shapes.items ++ candidates_from l.core.program l.core.world l.marks 1 l.steps;
  few : l.before ≤ l.step-index;
}
