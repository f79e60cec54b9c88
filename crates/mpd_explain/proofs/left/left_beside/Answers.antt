use Rattle.mpd_core.proofs.RangeLemmas.{given_more}
use Rattle.mpd_explain.specs.Left.{left_at}
use Rattle.mpd_explain.proofs.left.left_beside.Goals as goal

pub loop-rank-preserved : goal.loop-rank-preserved
loop-rank-preserved c =
    given_more (left_at c.args.core.now.program c.args.core.now.world.board c.args.told.now) c.loop-rank.rank c.rank_count-count.result c.loop-rank.left.items _ _ c.loop-rank-test.true c.loop-rank.invariant c.in_ok-push_left_at.ensures
