use Rattle.mpd_core.proofs.RangeLemmas.{given_more}
use Rattle.mpd_explain.specs.Lost.{lost_calls_of}
use Rattle.mpd_explain.proofs.lost.lost_calls.Goals as goal

pub loop-rank-preserved : goal.loop-rank-preserved
loop-rank-preserved c =
    given_more (lost_calls_of c.args.core.now.world) c.loop-rank.rank c.rank_count-count.result c.loop-rank.calls.items _ _ c.loop-rank-test.true c.loop-rank.invariant c.in_ok-list_lost.ensures
