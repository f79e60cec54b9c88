use Rattle.std.proofs.Common.{◌≡◌, drop}
use Rattle.std.specs.List.{list_any}
use Rattle.mpd_policy.specs.Wide.{conflict}
use Rattle.mpd_policy.proofs.wide.conflicts_with_any.Given as goal

abbrev pub invariant-loop-other : goal.invariant-loop-other
invariant-loop-other l = list_any (conflict l.core.world l.step) (drop l.other-index l.others) ≡ list_any (conflict l.core.world l.step) l.others
