use Rattle.mpd_core.proofs.RangeLemmas.{given_more}
use Rattle.mpd_page.specs.Changes.{handles_at}
use Rattle.mpd_page.proofs.changes.handles_changed.Goals as goal

pub loop-rank-preserved : goal.loop-rank-preserved
loop-rank-preserved c =
    given_more (handles_at c.args.before.now.world c.args.after.now.world) c.loop-rank.rank c.rank_count-count.result c.loop-rank.items.items _ _ c.loop-rank-test.true c.loop-rank.invariant c.in_ok-push_handles_at.ensures
