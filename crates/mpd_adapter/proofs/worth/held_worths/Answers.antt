use Rattle.mpd_core.proofs.RangeLemmas.{given_more}
use Rattle.mpd_adapter.specs.Worths.{held_worth}
use Rattle.mpd_adapter.proofs.worth.held_worths.Goals as goal

pub loop-rank-preserved : goal.loop-rank-preserved
loop-rank-preserved c =
    given_more (held_worth c.args.core.now.world c.args.named c.args.meant) c.loop-rank.rank c.rank_count-count.result c.loop-rank.list.items _ _ c.loop-rank-test.true c.loop-rank.invariant c.in_ok-push_held.ensures
