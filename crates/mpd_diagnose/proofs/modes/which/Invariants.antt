use Rattle.std.proofs.Common.{◌≡◌, ◌++◌, drop, map}
use Rattle.mpd_diagnose.specs.Modes.{same_verdict, which}
use Rattle.mpd_diagnose.proofs.modes.which.Given as goal

abbrev pub invariant-loop-verdict : goal.invariant-loop-verdict
invariant-loop-verdict l = l.flags.items ++ map (λ v. same_verdict v l.wanted) (drop l.verdict-index l.verdicts) ≡ which l.wanted l.verdicts
