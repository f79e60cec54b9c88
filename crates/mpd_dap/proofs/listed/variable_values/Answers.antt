use Rattle.std.proofs.Common.{ap, ◌∙◌}
use Rattle.serde_json.specs.View.{view}
use Rattle.mpd_dap.specs.Bodies.{variable_data}
use Rattle.mpd_dap.proofs.ListLemmas.{made_more, made_all}
use Rattle.mpd_dap.proofs.listed.variable_values.Goals as goal

pub loop-variable-preserved : goal.loop-variable-preserved
loop-variable-preserved c =
    made_more variable_data view c.args.variables.now c.loop-variable.values.items c.push.new.self.items c.loop-variable.variable-index _ c.in_ok-variable_value.field-0 c.loop-variable-test.true c.loop-variable.invariant
    (c.in_ok-variable_value.ensures ∙ ap variable_data c.variable-item.is) c.in_ok-push.ensures.items

pub returns : goal.returns
returns c = made_all variable_data c.loop-variable.values c.args.variables.now c.loop-variable.variable-index c.loop-variable-test.false c.loop-variable.invariant
