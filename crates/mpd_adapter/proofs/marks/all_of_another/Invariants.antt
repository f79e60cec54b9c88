use Rattle.std.proofs.Common.{◌≡◌, map, take}
use Rattle.mpd_adapter.specs.Marks.{of_another}
use Rattle.mpd_adapter.proofs.marks.all_of_another.Given as goal

abbrev pub invariant-loop-one : goal.invariant-loop-one
invariant-loop-one l = l.marks.items ≡ map of_another (take l.one-index l.wanted)
