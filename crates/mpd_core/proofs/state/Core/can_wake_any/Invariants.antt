use Rattle.std.proofs.Common.{◌≡◌, ◌-◌}
use Rattle.mpd_model.specs.declared.step.Step.TheVariants.{Wake}
use Rattle.mpd_core.proofs.RangeLemmas.{mapped_from}
use Rattle.mpd_model.specs.steps.Next.{is_enabled}
use Rattle.mpd_core.proofs.state.Core.can_wake_any.Given as goal

abbrev pub invariant-loop-rank : goal.invariant-loop-rank
invariant-loop-rank l = mapped_from (is_enabled l.self.world) Wake l.rank (l.count - l.rank) ≡ mapped_from (is_enabled l.self.world) Wake 0 l.count
