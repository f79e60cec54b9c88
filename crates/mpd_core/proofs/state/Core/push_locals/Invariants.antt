use Rattle.std.proofs.Common.{◌≡◌, ◌≤◌, ◌-◌, ◌++◌, length, map}
use Rattle.std.specs.List.{filter}
use Rattle.mpd_model.specs.declared.step.Step.TheVariants.{Local}
use Rattle.mpd_model.specs.steps.World.{rank_numbers}
use Rattle.mpd_model.specs.steps.Next.{is_enabled}
use Rattle.mpd_core.proofs.RangeLemmas.{chosen_from}
use Rattle.mpd_core.proofs.state.Core.push_locals.Given as goal

abbrev pub invariant-loop-rank : goal.invariant-loop-rank
invariant-loop-rank l = record {
  given : l.out.items ++ chosen_from (λ p. is_enabled l.self.world (Local p)) Local l.rank (l.count - l.rank) ≡ l.fn.out.items ++ map Local (filter (λ p. is_enabled l.self.world (Local p)) (rank_numbers l.self.world.board));
  grows : length l.fn.out.items ≤ length l.out.items;
}
