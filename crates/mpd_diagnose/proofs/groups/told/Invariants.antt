use Rattle.std.proofs.Common.{◌≡◌, ◌++◌, drop}
use Rattle.std.specs.List.{filter}
use Rattle.mpd_diagnose.specs.Groups.{is_told}
use Rattle.mpd_diagnose.proofs.groups.told.Given as goal

abbrev pub invariant-loop-number : goal.invariant-loop-number
invariant-loop-number l = l.chosen.items ++ filter (is_told l.ends) (drop l.number-index l.numbers) ≡ filter (is_told l.ends) l.numbers
