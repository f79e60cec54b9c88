use Rattle.serde_json.specs.View.{view}
use Rattle.mpd_wire.specs.Replies.{or_null}
use Rattle.mpd_wire.proofs.ListLemmas.{made_more, made_all}
use Rattle.mpd_wire.proofs.printer.handles_value.Goals as goal

pub loop-handle-preserved : goal.loop-handle-preserved
loop-handle-preserved c = made_more or_null view c.args.handles.now c.loop-handle.values.items c.push.new.self.items c.loop-handle.handle-index _ c.handle_value.result c.loop-handle-test.true c.loop-handle.invariant c.handle_value.ensures c.in_ok-push.ensures.items

pub returns : goal.returns
returns c = made_all or_null c.loop-handle.values c.args.handles.now c.loop-handle.handle-index c.loop-handle-test.false c.loop-handle.invariant
