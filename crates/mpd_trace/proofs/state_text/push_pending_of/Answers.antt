use Rattle.std.proofs.Common.{string_bytes}
use Rattle.mpd_model.specs.texts.Texts.{pending_line}
use Rattle.mpd_trace.proofs.RangeTexts.{texts_more}
use Rattle.mpd_trace.proofs.state_text.push_pending_of.Goals as goal

pub loop-receiver-preserved : goal.loop-receiver-preserved
loop-receiver-preserved c =
    texts_more (pending_line c.args.board.now.board c.args.sender) c.loop-receiver.receiver c.rank_count-count.result (string_bytes c.loop-receiver.out) _ _ c.loop-receiver-test.true c.loop-receiver.invariant c.in_ok-push_pending.ensures
