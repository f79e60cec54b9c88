use Rattle.mpd_core.proofs.RangeLemmas.{given_more}
use Rattle.mpd_explain.specs.Shown.{pending_at}
use Rattle.mpd_explain.proofs.looks.push_pending.Goals as goal

pub loop-index-preserved : goal.loop-index-preserved
loop-index-preserved c =
    given_more (pending_at c.args.core.now.program c.args.core.now.world.board c.args.sender c.args.receiver) c.loop-index.index c.call_count-count.result c.loop-index.calls.items _ _ c.loop-index-test.true c.loop-index.invariant c.in_ok-push_if_pending.ensures
