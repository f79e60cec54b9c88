use Rattle.std.proofs.Common.{◌≡◌, ◌-◌, ◌++◌}
use Rattle.std.specs.List.{flat_map, range_with_len}
use Rattle.mpd_model.specs.steps.Outcomes.{traps_at, traps_in}
use Rattle.std.proofs.Common.{slice_get}
use Rattle.mpd_core.proofs.state.Core.traps.Given as goal

abbrev pub invariant-loop-rank : goal.invariant-loop-rank
invariant-loop-rank l = l.traps.items ++ flat_map (λ p. traps_at p (slice_get l.self.world.ranks p)) (range_with_len l.rank (l.count - l.rank)) ≡ traps_in l.self.world
