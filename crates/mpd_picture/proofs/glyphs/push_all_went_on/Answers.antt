use Rattle.mpd_core.proofs.RangeLemmas.{given_more}
use Rattle.mpd_picture.specs.Glyphs.{went_on}
use Rattle.mpd_picture.proofs.glyphs.push_all_went_on.Goals as goal

pub loop-rank-preserved : goal.loop-rank-preserved
loop-rank-preserved c = given_more (went_on c.args.core.now.world.board c.args.row) c.loop-rank.rank c.rank_count-count.result c.loop-rank.glyphs.items _ _ c.loop-rank-test.true c.loop-rank.invariant c.in_ok-push_went_on.ensures
