use Rattle.mpd_core.proofs.RangeLemmas.{given_more}
use Rattle.mpd_picture.specs.Ends.{absent_at}
use Rattle.mpd_picture.proofs.ends.absent_ranks.Goals as goal

pub loop-rank-preserved : goal.loop-rank-preserved
loop-rank-preserved c = given_more (absent_at c.args.core.now.world) c.loop-rank.rank c.rank_count-count.result c.loop-rank.absent.items _ _ c.loop-rank-test.true c.loop-rank.invariant c.in_ok-push_absent.ensures
