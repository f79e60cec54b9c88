use Rattle.std.proofs.Common.{◌≡◌, ◌-◌}
use Rattle.mpd_model.specs.steps.Next.{is_at_barrier}
use Rattle.mpd_core.proofs.ReleaseLemmas.{all_from}
use Rattle.mpd_core.proofs.state.Core.can_release.Given as goal

abbrev pub invariant-loop-rank : goal.invariant-loop-rank
invariant-loop-rank l = all_from (is_at_barrier l.self.world) l.rank (l.count - l.rank) ≡ all_from (is_at_barrier l.self.world) 0 l.count
