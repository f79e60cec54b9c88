use Rattle.mpd_explain.specs.Waits.{is_awaited}
use Rattle.mpd_explain.proofs.ListLemmas.{filter_more}
use Rattle.mpd_explain.proofs.waits.awaited_by.Goals as goal

pub loop-rank-preserved : goal.loop-rank-preserved
loop-rank-preserved c =
    filter_more (is_awaited c.args.core.now.world.board c.args.call c.args.calls.now) c.loop-rank.rank c.rank_count-count.result c.is_awaited.result c.loop-rank.ranks.items _ _ c.loop-rank-test.true c.loop-rank.invariant c.is_awaited.ensures c.in_ok-push_if.ensures
