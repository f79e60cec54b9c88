use Rattle.mpd_core.proofs.RangeLemmas.{given_more}
use Rattle.mpd_model.specs.steps.World.{call_id}
use Rattle.mpd_explain.specs.Missed.{due_with}
use Rattle.mpd_explain.proofs.near_miss.push_due_at.Goals as goal

pub loop-index-preserved : goal.loop-index-preserved
loop-index-preserved c =
    given_more (λ i. due_with c.args.core.now.world c.args.call (call_id c.args.rank i)) c.loop-index.index c.call_count-count.result c.loop-index.out.items _ _ c.loop-index-test.true c.loop-index.invariant c.in_ok-push_due.ensures
