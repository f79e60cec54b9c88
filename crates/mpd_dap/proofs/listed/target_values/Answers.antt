use Rattle.std.proofs.Common.{ap, ◌∙◌}
use Rattle.serde_json.specs.View.{view}
use Rattle.mpd_dap.specs.Bodies.{target_data}
use Rattle.mpd_dap.proofs.ListLemmas.{made_more, made_all}
use Rattle.mpd_dap.proofs.listed.target_values.Goals as goal

pub loop-target-preserved : goal.loop-target-preserved
loop-target-preserved c =
    made_more target_data view c.args.targets.now c.loop-target.values.items c.push.new.self.items c.loop-target.target-index _ c.in_ok-target_value.field-0 c.loop-target-test.true c.loop-target.invariant
    (c.in_ok-target_value.ensures ∙ ap target_data c.target-item.is) c.in_ok-push.ensures.items

pub returns : goal.returns
returns c = made_all target_data c.loop-target.values c.args.targets.now c.loop-target.target-index c.loop-target-test.false c.loop-target.invariant
