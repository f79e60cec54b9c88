use Rattle.std.proofs.Common.{not, ap}
use Rattle.mpd_model.specs.steps.Next.{is_at_barrier}
use Rattle.mpd_explain.proofs.ListLemmas.{filter_more}
use Rattle.mpd_page.proofs.reasons.absent.Goals as goal

pub loop-rank-preserved : goal.loop-rank-preserved
loop-rank-preserved c =
    filter_more (λ q. not (is_at_barrier c.args.core.now.world q)) c.loop-rank.rank c.rank_count-count.result (not c.is_at_barrier.result) c.loop-rank.items.items _ _ c.loop-rank-test.true c.loop-rank.invariant (ap not c.is_at_barrier.ensures) c.in_ok-push_if.ensures
