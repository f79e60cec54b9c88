use Rattle.std.proofs.Common.{string_bytes}
use Rattle.mpd_model.specs.texts.Texts.{pending_lines}
use Rattle.mpd_trace.proofs.RangeTexts.{texts_more}
use Rattle.mpd_trace.proofs.state_text.push_all_pending.Goals as goal

pub loop-sender-preserved : goal.loop-sender-preserved
loop-sender-preserved c =
    texts_more (pending_lines c.args.board.now.board) c.loop-sender.sender c.rank_count-count.result (string_bytes c.loop-sender.out) _ _ c.loop-sender-test.true c.loop-sender.invariant c.in_ok-push_pending_of.ensures
