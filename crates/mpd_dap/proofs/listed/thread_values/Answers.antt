use Rattle.std.proofs.Common.{ap, ◌∙◌}
use Rattle.serde_json.specs.View.{view}
use Rattle.mpd_dap.specs.Bodies.{thread_data}
use Rattle.mpd_dap.proofs.ListLemmas.{made_more, made_all}
use Rattle.mpd_dap.proofs.listed.thread_values.Goals as goal

pub loop-thread-preserved : goal.loop-thread-preserved
loop-thread-preserved c =
    made_more thread_data view c.args.threads.now c.loop-thread.values.items c.push.new.self.items c.loop-thread.thread-index _ c.in_ok-thread_value.field-0 c.loop-thread-test.true c.loop-thread.invariant
    (c.in_ok-thread_value.ensures ∙ ap thread_data c.thread-item.is) c.in_ok-push.ensures.items

pub returns : goal.returns
returns c = made_all thread_data c.loop-thread.values c.args.threads.now c.loop-thread.thread-index c.loop-thread-test.false c.loop-thread.invariant
