use Rattle.std.proofs.Common.{◌≡◌, drop}
use Rattle.mpd_diagnose.specs.Groups.{shortest}
use Rattle.mpd_diagnose.proofs.groups.shortest.Given as goal

abbrev pub invariant-loop-other : goal.invariant-loop-other
invariant-loop-other l = shortest l.ends l.shown (drop l.other-index l.others) ≡ shortest l.ends l.number l.others
