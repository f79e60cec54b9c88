use Rattle.std.proofs.Common.{slice_get}
use Rattle.mpd_model.specs.steps.Outcomes.{traps_at}
use Rattle.mpd_core.proofs.RangeLemmas.{given_more, given_some, refused_with}
use Rattle.mpd_core.proofs.state.Core.traps.Goals as goal

pub loop-rank-preserved : goal.loop-rank-preserved
loop-rank-preserved c =
    let w = c.args.self.now.world in
    given_more (λ p. traps_at p (slice_get w.ranks p)) c.loop-rank.rank c.rank_count-count.result c.loop-rank.traps.items _ _ c.loop-rank-test.true c.loop-rank.invariant c.in_ok-push_trap.ensures.ok

pub returns-in_err-push_trap-clause-memory : goal.returns-in_err-push_trap-clause-memory
returns-in_err-push_trap-clause-memory c =
    let w = c.args.self.now.world in
    refused_with _ (given_some (λ p. traps_at p (slice_get w.ranks p)) c.loop-rank.rank c.rank_count-count.result c.loop-rank.traps.items _ c.loop-rank-test.true c.loop-rank.invariant c.in_err-push_trap.ensures.memory)
