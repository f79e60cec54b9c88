use Rattle.std.proofs.Common.{string_bytes}
use Rattle.mpd_model.specs.texts.Texts.{rank_lines}
use Rattle.mpd_trace.proofs.RangeTexts.{texts_more}
use Rattle.mpd_trace.proofs.state_text.push_ranks.Goals as goal

pub loop-rank-preserved : goal.loop-rank-preserved
loop-rank-preserved c =
    let w = c.args.core.now.world in
    texts_more (rank_lines c.args.core.now.program w) c.loop-rank.rank c.rank_count-count.result (string_bytes c.loop-rank.out) _ _ c.loop-rank-test.true c.loop-rank.invariant c.in_ok-push_rank.ensures
