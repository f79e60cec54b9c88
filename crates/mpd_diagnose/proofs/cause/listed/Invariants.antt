use Rattle.std.proofs.Common.{◌≡◌, ◌++◌}
use Rattle.mpd_diagnose.proofs.cause.listed.Given as goal

abbrev pub invariant-loop-number : goal.invariant-loop-number
invariant-loop-number l = l.list.items ++ l.number-iterator ≡ l.numbers.keys
