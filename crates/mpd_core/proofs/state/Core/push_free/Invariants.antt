use Rattle.std.proofs.Common.{◌≡◌, ◌≤◌, ◌-◌, ◌++◌, length}
use Rattle.mpd_model.specs.steps.Outcomes.{issued_call, free_of}
use Rattle.mpd_model.specs.steps.World.{call_id, is_free}
use Rattle.mpd_core.proofs.RangeLemmas.{chosen_from}
use Rattle.mpd_core.proofs.state.Core.push_free.Given as goal

abbrev pub invariant-loop-index : goal.invariant-loop-index
invariant-loop-index l = record {
  given : l.out.items ++ chosen_from (λ i. is_free l.self.world.board (call_id l.rank i)) (λ i. issued_call l.self.world.board (call_id l.rank i)) l.index (l.count - l.index) ≡ l.fn.out.items ++ free_of l.self.world.board l.rank;
  grows : length l.fn.out.items ≤ length l.out.items;
}
