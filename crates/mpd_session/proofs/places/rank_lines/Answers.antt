use Rattle.mpd_names.specs.Stand.{stand}
use Rattle.mpd_session.proofs.LookLemmas.{mapped_more}
use Rattle.mpd_session.proofs.places.rank_lines.Goals as goal

pub loop-rank-preserved : goal.loop-rank-preserved
loop-rank-preserved c =
    mapped_more (stand c.args.core.now.program c.args.core.now.world) c.loop-rank.rank c.rank_count-count.result c.loop-rank.items.items _ _ c.stand.result
    c.loop-rank-test.true c.loop-rank.invariant c.in_ok-push.ensures.items c.stand.ensures
