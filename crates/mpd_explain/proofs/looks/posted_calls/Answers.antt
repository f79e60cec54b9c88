use Rattle.mpd_core.proofs.RangeLemmas.{given_more}
use Rattle.mpd_explain.specs.Shown.{posted_of}
use Rattle.mpd_explain.proofs.looks.posted_calls.Goals as goal

pub loop-rank-preserved : goal.loop-rank-preserved
loop-rank-preserved c =
    given_more (posted_of c.args.core.now.program c.args.core.now.world.board) c.loop-rank.rank c.rank_count-count.result c.loop-rank.items.items _ _ c.loop-rank-test.true c.loop-rank.invariant c.in_ok-push_posted.ensures
