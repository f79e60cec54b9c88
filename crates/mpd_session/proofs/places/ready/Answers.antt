use Rattle.mpd_core.proofs.RangeLemmas.{given_more}
use Rattle.mpd_session.specs.Looks.{if_ready}
use Rattle.mpd_session.proofs.places.ready.Goals as goal

pub loop-rank-preserved : goal.loop-rank-preserved
loop-rank-preserved c =
    given_more (if_ready c.args.core.now.world) c.loop-rank.rank c.rank_count-count.result c.loop-rank.items.items _ _ c.loop-rank-test.true c.loop-rank.invariant c.in_ok-push_if_ready.ensures
