use Rattle.std.proofs.Common.{◌≡◌, ◌++◌, drop}
use Rattle.std.specs.List.{filter}
use Rattle.mpd_diagnose.specs.Groups.{is_of}
use Rattle.mpd_diagnose.proofs.groups.push_those.Given as goal

abbrev pub invariant-loop-group : goal.invariant-loop-group
invariant-loop-group l = l.chosen.items ++ filter (is_of l.part.bad l.part.wide l.ends l.groups) (drop l.group-index l.groups) ≡ l.fn.chosen.items ++ filter (is_of l.part.bad l.part.wide l.ends l.groups) l.groups
