use Rattle.mpd_model.specs.steps.World.{call_id, is_free}
use Rattle.mpd_model.specs.steps.Outcomes.{issued_call}
use Rattle.mpd_core.proofs.RangeLemmas.{chosen_more, chosen_some, chosen_grows, refused_with}
use Rattle.mpd_core.proofs.state.Core.push_free.Goals as goal

pub loop-index-preserved : goal.loop-index-preserved
loop-index-preserved c =
    let w = c.args.self.now.world in
    let p = c.args.rank in
    record {
      given = chosen_more (λ i. is_free w.board (call_id p i)) (λ i. issued_call w.board (call_id p i)) c.loop-index.index c.call_count-count.result c.loop-index.out.items _ _ c.loop-index-test.true c.loop-index.invariant.given c.in_ok-push_if_free.ensures.ok;
      grows = chosen_grows _ c.loop-index.out.items _ _ c.loop-index.invariant.grows c.in_ok-push_if_free.ensures.ok;
    }

pub returns-in_err-push_if_free-clause-memory : goal.returns-in_err-push_if_free-clause-memory
returns-in_err-push_if_free-clause-memory c =
    let w = c.args.self.now.world in
    let p = c.args.rank in
    refused_with _ (chosen_some (λ i. is_free w.board (call_id p i)) (λ i. issued_call w.board (call_id p i)) c.loop-index.index c.call_count-count.result c.loop-index.out.items c.args.out.now.items _ c.loop-index-test.true c.loop-index.invariant.grows c.loop-index.invariant.given c.in_err-push_if_free.ensures.memory)
