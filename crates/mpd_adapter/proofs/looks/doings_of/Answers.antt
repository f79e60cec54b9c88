use Rattle.mpd_adapter.specs.Looks.{rank_doing}
use Rattle.mpd_session.proofs.LookLemmas.{mapped_more}
use Rattle.mpd_adapter.proofs.looks.doings_of.Goals as goal

pub loop-rank-preserved : goal.loop-rank-preserved
loop-rank-preserved c =
    mapped_more (rank_doing c.args.core.now.program c.args.core.now.world) c.loop-rank.rank c.rank_count-count.result c.loop-rank.list.items _ _ c.rank_doing.result
    c.loop-rank-test.true c.loop-rank.invariant c.in_ok-push.ensures.items c.rank_doing.ensures
