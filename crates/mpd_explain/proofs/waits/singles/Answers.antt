use Rattle.mpd_explain.specs.Waits.{single}
use Rattle.mpd_explain.proofs.ListLemmas.{mapped_more}
use Rattle.mpd_explain.proofs.waits.singles.Goals as goal

pub loop-rank-preserved : goal.loop-rank-preserved
loop-rank-preserved c =
    mapped_more (single c.args.core.now.world) c.loop-rank.rank c.rank_count-count.result c.loop-rank.next.items _ _ c.in_ok-single.field-0 c.loop-rank-test.true c.loop-rank.invariant c.in_ok-push_single.ensures c.in_ok-single.ensures
