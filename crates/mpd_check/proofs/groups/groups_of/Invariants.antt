use Rattle.std.proofs.Common.{◌≡◌, ◌++◌, drop, map}
use Rattle.mpd_check.specs.Grouped.{group_of}
use Rattle.mpd_check.proofs.groups.groups_of.Given as goal

abbrev pub invariant-loop-first : goal.invariant-loop-first
invariant-loop-first l = record { groups : l.groups.items ++ map (group_of l.leaves) (drop l.first-index l.firsts) ≡ map (group_of l.leaves) l.firsts }
