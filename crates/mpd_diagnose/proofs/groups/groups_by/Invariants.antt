use Rattle.std.proofs.Common.{◌≡◌, ◌++◌, drop, map}
use Rattle.mpd_diagnose.specs.Groups.{group_of}
use Rattle.mpd_diagnose.proofs.groups.groups_by.Given as goal

abbrev pub invariant-loop-number : goal.invariant-loop-number
invariant-loop-number l = l.groups.items ++ map (group_of l.ends l.counts) (drop l.number-index l.numbers) ≡ map (group_of l.ends l.counts) l.numbers
