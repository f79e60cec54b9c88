use Rattle.mpd_model.specs.steps.Outcomes.{free_of}
use Rattle.mpd_core.proofs.RangeLemmas.{given_more, given_some, refused_with}
use Rattle.mpd_core.proofs.state.Core.free.Goals as goal

pub loop-rank-preserved : goal.loop-rank-preserved
loop-rank-preserved c =
    let w = c.args.self.now.world in
    given_more (λ p. free_of w.board p) c.loop-rank.rank c.rank_count-count.result c.loop-rank.calls.items _ _ c.loop-rank-test.true c.loop-rank.invariant c.in_ok-push_free.ensures.ok

pub returns-in_err-push_free-clause-memory : goal.returns-in_err-push_free-clause-memory
returns-in_err-push_free-clause-memory c =
    let w = c.args.self.now.world in
    refused_with _ (given_some (λ p. free_of w.board p) c.loop-rank.rank c.rank_count-count.result c.loop-rank.calls.items _ c.loop-rank-test.true c.loop-rank.invariant c.in_err-push_free.ensures.memory)
