use Rattle.std.proofs.Common.{◌≡◌, ◌-◌, ◌++◌}
use Rattle.std.specs.List.{flat_map, range_with_len}
use Rattle.mpd_model.specs.steps.Outcomes.{free_of, free_calls}
use Rattle.mpd_core.proofs.state.Core.free.Given as goal

abbrev pub invariant-loop-rank : goal.invariant-loop-rank
invariant-loop-rank l = l.calls.items ++ flat_map (free_of l.self.world.board) (range_with_len l.rank (l.count - l.rank)) ≡ free_calls l.self.world.board
