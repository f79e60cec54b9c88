use Rattle.mpd_core.proofs.RangeLemmas.{given_more}
use Rattle.mpd_picture.specs.Shapes.{end_shapes}
use Rattle.mpd_picture.proofs.shapes.push_ends.Goals as goal

pub loop-rank-preserved : goal.loop-rank-preserved
loop-rank-preserved c = given_more (end_shapes c.args.core.now.program c.args.core.now.world c.args.marks.now c.args.rows) c.loop-rank.rank c.rank_count-count.result c.loop-rank.shapes.items _ _ c.loop-rank-test.true c.loop-rank.invariant c.in_ok-push_end.ensures
