use Rattle.std.proofs.Common.{◌≡◌, ◌-◌}
use Rattle.mpd_model.specs.declared.step.Step.TheVariants.{WakeAny}
use Rattle.mpd_core.proofs.RangeLemmas.{mapped_from}
use Rattle.mpd_model.specs.steps.Next.{is_enabled}
use Rattle.mpd_core.proofs.state.Core.can_choose.Given as goal

abbrev pub invariant-loop-index : goal.invariant-loop-index
invariant-loop-index l = mapped_from (is_enabled l.self.world) (WakeAny l.rank) l.index (l.count - l.index) ≡ mapped_from (is_enabled l.self.world) (WakeAny l.rank) 0 l.count
