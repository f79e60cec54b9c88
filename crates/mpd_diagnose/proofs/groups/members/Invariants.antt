use Rattle.std.proofs.Common.{◌≡◌, ◌-◌, ◌++◌}
use Rattle.std.specs.List.{filter, range_with_len}
use Rattle.mpd_diagnose.specs.Groups.{same_at, members}
use Rattle.mpd_diagnose.proofs.groups.members.Given as goal

abbrev pub invariant-loop-other : goal.invariant-loop-other
invariant-loop-other l = l.numbers.items ++ filter (same_at l.ends l.number) (range_with_len l.other (l.count - l.other)) ≡ members l.ends l.number
