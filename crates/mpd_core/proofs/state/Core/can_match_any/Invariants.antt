use Rattle.std.proofs.Common.{◌≡◌, ◌-◌}
use Rattle.mpd_core.proofs.RangeLemmas.{joined_from}
use Rattle.mpd_model.specs.steps.Next.{is_enabled, matches_of}
use Rattle.mpd_core.proofs.state.Core.can_match_any.Given as goal

abbrev pub invariant-loop-receiver : goal.invariant-loop-receiver
invariant-loop-receiver l = joined_from (is_enabled l.self.world) (matches_of l.self.world.board) l.receiver (l.count - l.receiver) ≡ joined_from (is_enabled l.self.world) (matches_of l.self.world.board) 0 l.count
