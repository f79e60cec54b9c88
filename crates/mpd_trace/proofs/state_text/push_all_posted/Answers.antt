use Rattle.std.proofs.Common.{string_bytes}
use Rattle.mpd_model.specs.texts.Texts.{posted_line}
use Rattle.mpd_trace.proofs.RangeTexts.{texts_more}
use Rattle.mpd_trace.proofs.state_text.push_all_posted.Goals as goal

pub loop-rank-preserved : goal.loop-rank-preserved
loop-rank-preserved c =
    texts_more (posted_line c.args.board.now.board) c.loop-rank.rank c.rank_count-count.result (string_bytes c.loop-rank.out) _ _ c.loop-rank-test.true c.loop-rank.invariant c.in_ok-push_posted.ensures
