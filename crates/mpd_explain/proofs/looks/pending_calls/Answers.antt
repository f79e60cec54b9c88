use Rattle.mpd_core.proofs.RangeLemmas.{given_more}
use Rattle.mpd_explain.specs.Shown.{pending_from}
use Rattle.mpd_explain.proofs.looks.pending_calls.Goals as goal

pub loop-sender-preserved : goal.loop-sender-preserved
loop-sender-preserved c =
    given_more (pending_from c.args.core.now.program c.args.core.now.world.board) c.loop-sender.sender c.rank_count-count.result c.loop-sender.items.items _ _ c.loop-sender-test.true c.loop-sender.invariant c.in_ok-push_pending_from.ensures
