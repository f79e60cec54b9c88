use Rattle.std.proofs.Common.{◌≡◌, drop}
use Rattle.mpd_diagnose.specs.Modes.{first_from, first_of}
use Rattle.mpd_diagnose.proofs.modes.first_of.Given as goal

abbrev pub invariant-loop-place : goal.invariant-loop-place
invariant-loop-place l = first_from l.place l.wanted (drop l.place l.verdicts) ≡ first_of l.wanted l.verdicts
