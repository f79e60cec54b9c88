use Rattle.serde_json.specs.View.{view}
use Rattle.mpd_dap.specs.Bodies.{mark_data}
use Rattle.mpd_dap.proofs.ListLemmas.{made_more, made_all}
use Rattle.mpd_dap.proofs.listed.mark_values.Goals as goal

pub loop-mark-preserved : goal.loop-mark-preserved
loop-mark-preserved c =
    made_more mark_data view c.args.marks.now c.loop-mark.values.items c.push.new.self.items c.loop-mark.mark-index _ c.in_ok-mark_value.field-0 c.loop-mark-test.true c.loop-mark.invariant
    c.in_ok-mark_value.ensures c.in_ok-push.ensures.items

pub returns : goal.returns
returns c = made_all mark_data c.loop-mark.values c.args.marks.now c.loop-mark.mark-index c.loop-mark-test.false c.loop-mark.invariant
