use Rattle.std.proofs.Common.{◌≡◌, ◌-◌, ◌++◌, map}
use Rattle.std.specs.List.{range_with_len}
use Rattle.mpd_explain.specs.Waits.{single, singles}
use Rattle.mpd_explain.proofs.waits.singles.Given as goal

abbrev pub invariant-loop-rank : goal.invariant-loop-rank
invariant-loop-rank l = l.next.items ++ map (single l.core.world) (range_with_len l.rank (l.count - l.rank)) ≡ singles l.core.world
