use Rattle.mpd_core.proofs.RangeLemmas.{given_more}
use Rattle.mpd_explain.specs.Shown.{pending_to}
use Rattle.mpd_explain.proofs.looks.push_pending_from.Goals as goal

pub loop-receiver-preserved : goal.loop-receiver-preserved
loop-receiver-preserved c =
    given_more (pending_to c.args.core.now.program c.args.core.now.world.board c.args.sender) c.loop-receiver.receiver c.rank_count-count.result c.loop-receiver.calls.items _ _ c.loop-receiver-test.true c.loop-receiver.invariant c.in_ok-push_pending.ensures
