use Rattle.serde_json.specs.View.{view}
use Rattle.mpd_wire.specs.Replies.{placed}
use Rattle.mpd_wire.proofs.ListLemmas.{made_more, made_all}
use Rattle.mpd_wire.proofs.look_values.step_values.Goals as goal

pub loop-step-preserved : goal.loop-step-preserved
loop-step-preserved c = made_more placed view c.args.steps.now c.loop-step.values.items c.push.new.self.items c.loop-step.step-index _ c.in_ok-step_value.field-0 c.loop-step-test.true c.loop-step.invariant c.in_ok-step_value.ensures c.in_ok-push.ensures.items

pub returns : goal.returns
returns c = made_all placed c.loop-step.values c.args.steps.now c.loop-step.step-index c.loop-step-test.false c.loop-step.invariant
