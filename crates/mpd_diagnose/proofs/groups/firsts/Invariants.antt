use Rattle.std.proofs.Common.{◌≡◌, ◌-◌, ◌++◌}
use Rattle.std.specs.List.{filter, range_with_len}
use Rattle.mpd_diagnose.specs.Groups.{is_first, firsts}
use Rattle.mpd_diagnose.proofs.AlikeLemmas.{Finds}
use Rattle.mpd_diagnose.proofs.groups.firsts.Given as goal

abbrev pub invariant-loop-number : goal.invariant-loop-number
invariant-loop-number l = record {
  numbers : l.numbers.items ++ filter (is_first l.ends) (range_with_len l.number (l.count - l.number)) ≡ firsts l.ends;
  finds : Finds l.ends l.numbers.items l.number;
}
