use Rattle.mpd_core.proofs.RangeLemmas.{given_more}
use Rattle.mpd_page.specs.Changes.{first_entry}
use Rattle.mpd_page.proofs.changes.first_places.Goals as goal

pub loop-rank-preserved : goal.loop-rank-preserved
loop-rank-preserved c =
    given_more (first_entry c.args.core.now.program c.args.core.now.world) c.loop-rank.rank c.rank_count-count.result c.loop-rank.items.items _ _ c.loop-rank-test.true c.loop-rank.invariant c.in_ok-push_first_place.ensures
