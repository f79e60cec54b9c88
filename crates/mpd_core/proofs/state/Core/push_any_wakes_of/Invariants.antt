use Rattle.std.proofs.Common.{◌≡◌, ◌≤◌, ◌-◌, ◌++◌, length}
use Rattle.mpd_model.specs.declared.step.Step.TheVariants.{WakeAny}
use Rattle.mpd_model.specs.steps.Next.{is_enabled}
use Rattle.mpd_core.proofs.EnabledLemmas.{any_wakes_at}
use Rattle.mpd_core.proofs.RangeLemmas.{chosen_from}
use Rattle.mpd_core.proofs.state.Core.push_any_wakes_of.Given as goal

abbrev pub invariant-loop-index : goal.invariant-loop-index
invariant-loop-index l = record {
  given : l.out.items ++ chosen_from (λ i. is_enabled l.self.world (WakeAny l.rank i)) (WakeAny l.rank) l.index (l.count - l.index) ≡ l.fn.out.items ++ any_wakes_at l.self.world l.rank;
  grows : length l.fn.out.items ≤ length l.out.items;
}
