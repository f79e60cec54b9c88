use Rattle.mpd_core.proofs.RangeLemmas.{given_more}
use Rattle.mpd_explain.specs.Missed.{due_at}
use Rattle.mpd_explain.proofs.near_miss.due.Goals as goal

pub loop-rank-preserved : goal.loop-rank-preserved
loop-rank-preserved c =
    given_more (due_at c.args.core.now.world c.args.call) c.loop-rank.rank c.rank_count-count.result c.loop-rank.found.items _ _ c.loop-rank-test.true c.loop-rank.invariant c.in_ok-push_due_at.ensures
