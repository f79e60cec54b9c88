use Rattle.std.proofs.Common.{string_bytes}
use Rattle.mpd_model.specs.steps.World.{call_id}
use Rattle.mpd_model.specs.texts.Texts.{call_line}
use Rattle.mpd_trace.proofs.RangeTexts.{texts_more}
use Rattle.mpd_trace.proofs.state_text.push_calls.Goals as goal

pub loop-index-preserved : goal.loop-index-preserved
loop-index-preserved c =
    let w = c.args.core.now.world in
    texts_more (λ i. call_line w.board (call_id c.args.rank i)) c.loop-index.index c.call_count-count.result (string_bytes c.loop-index.out) _ _ c.loop-index-test.true c.loop-index.invariant c.in_ok-push_call.ensures
