use Rattle.std.proofs.Common.{◌≡◌, ◌-◌, ◌++◌}
use Rattle.std.specs.List.{flat_map, range_with_len}
use Rattle.mpd_explain.specs.Waits.{listed, cycle, singles, cycles}
use Rattle.mpd_explain.proofs.waits.cycles.Given as goal

abbrev pub invariant-loop-rank : goal.invariant-loop-rank
invariant-loop-rank l = l.cycles.items ++ flat_map (λ p. listed (cycle (singles l.core.world) p)) (range_with_len l.rank (l.count - l.rank)) ≡ cycles l.core.world
