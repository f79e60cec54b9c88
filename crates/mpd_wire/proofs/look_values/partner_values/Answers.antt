use Rattle.serde_json.specs.View.{view}
use Rattle.mpd_wire.specs.Replies.{call_or_null}
use Rattle.mpd_wire.proofs.ListLemmas.{made_more, made_all}
use Rattle.mpd_wire.proofs.look_values.partner_values.Goals as goal

pub loop-partner-preserved : goal.loop-partner-preserved
loop-partner-preserved c = made_more call_or_null view c.args.partners.now c.loop-partner.values.items c.push.new.self.items c.loop-partner.partner-index _ c.in_ok-partner_value.field-0 c.loop-partner-test.true c.loop-partner.invariant c.in_ok-partner_value.ensures c.in_ok-push.ensures.items

pub returns : goal.returns
returns c = made_all call_or_null c.loop-partner.values c.args.partners.now c.loop-partner.partner-index c.loop-partner-test.false c.loop-partner.invariant
