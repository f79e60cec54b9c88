use Rattle.std.proofs.Common.{◌≡◌, ◌-◌}
use Rattle.mpd_core.proofs.RangeLemmas.{joined_from}
use Rattle.mpd_model.specs.steps.Next.{is_enabled, any_wakes_of}
use Rattle.mpd_core.proofs.state.Core.can_choose_any.Given as goal

abbrev pub invariant-loop-rank : goal.invariant-loop-rank
invariant-loop-rank l = joined_from (is_enabled l.self.world) (any_wakes_of l.self.world.board) l.rank (l.count - l.rank) ≡ joined_from (is_enabled l.self.world) (any_wakes_of l.self.world.board) 0 l.count
