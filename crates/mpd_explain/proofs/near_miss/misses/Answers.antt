use Rattle.mpd_core.proofs.RangeLemmas.{given_more}
use Rattle.mpd_explain.specs.Missed.{misses_at}
use Rattle.mpd_explain.proofs.near_miss.misses.Goals as goal

pub loop-rank-preserved : goal.loop-rank-preserved
loop-rank-preserved c =
    given_more (misses_at c.args.core.now.world.board c.args.call) c.loop-rank.rank c.rank_count-count.result c.loop-rank.found.items _ _ c.loop-rank-test.true c.loop-rank.invariant c.in_ok-push_misses_at.ensures
