use Rattle.std.proofs.Common.{◌≡◌, ◌-◌, ◌++◌}
use Rattle.std.specs.List.{flat_map, range_with_len}
use Rattle.mpd_model.specs.steps.Outcomes.{blocked_at, blocked_calls}
use Rattle.std.proofs.Common.{slice_get}
use Rattle.mpd_core.proofs.state.Core.blocked.Given as goal

abbrev pub invariant-loop-rank : goal.invariant-loop-rank
invariant-loop-rank l = l.calls.items ++ flat_map (λ p. blocked_at l.self.world p (slice_get l.self.world.ranks p)) (range_with_len l.rank (l.count - l.rank)) ≡ blocked_calls l.self.world
