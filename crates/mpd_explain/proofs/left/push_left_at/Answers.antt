use Rattle.mpd_core.proofs.RangeLemmas.{given_more}
use Rattle.mpd_model.specs.steps.World.{call_id}
use Rattle.mpd_explain.specs.Left.{left_with}
use Rattle.mpd_explain.proofs.left.push_left_at.Goals as goal

pub loop-index-preserved : goal.loop-index-preserved
loop-index-preserved c =
    given_more (λ i. left_with c.args.core.now.program c.args.core.now.world.board c.args.told.now (call_id c.args.rank i)) c.loop-index.index c.call_count-count.result c.loop-index.left.items _ _ c.loop-index-test.true c.loop-index.invariant c.in_ok-push_if_left.ensures
