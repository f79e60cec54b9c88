use Rattle.std.proofs.Common.{◌≡◌, ◌-◌, ◌++◌}
use Rattle.std.specs.List.{flat_map, range_with_len}
use Rattle.mpd_core.proofs.EnabledLemmas.{any_wakes_at, any_wakes}
use Rattle.mpd_policy.proofs.wide.push_any_wakes.Given as goal

abbrev pub invariant-loop-rank : goal.invariant-loop-rank
invariant-loop-rank l = l.steps.items ++ flat_map (any_wakes_at l.core.world) (range_with_len l.rank (l.count - l.rank)) ≡ any_wakes l.core.world
