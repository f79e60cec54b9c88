use Rattle.std.proofs.Common.{◌≡◌, ◌+◌, drop}
use Rattle.mpd_console.specs.Again.{fitting, retaken}
use Rattle.mpd_console.proofs.again.take_again.Given as goal

abbrev pub invariant-loop-taken : goal.invariant-loop-taken
invariant-loop-taken l = record {
  count : l.taken + fitting l.session (drop l.taken l.steps) ≡ fitting l.fn.session l.steps;
  session : retaken l.session (drop l.taken l.steps) ≡ retaken l.fn.session l.steps;
}
