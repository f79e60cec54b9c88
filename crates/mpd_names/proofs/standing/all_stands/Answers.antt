use Rattle.mpd_core.proofs.RangeLemmas.{given_more}
use Rattle.mpd_names.specs.Stand.{stands_if}
use Rattle.mpd_names.proofs.standing.all_stands.Goals as goal

pub loop-rank-preserved : goal.loop-rank-preserved
loop-rank-preserved c =
    given_more (stands_if c.args.core.now.program c.args.core.now.world) c.loop-rank.rank c.rank_count-count.result c.loop-rank.all.items _ _ c.loop-rank-test.true c.loop-rank.invariant c.in_ok-push_stands.ensures
