use Rattle.std.proofs.Common.{ap, ◌∙◌}
use Rattle.serde_json.specs.View.{view}
use Rattle.mpd_wire.specs.Replies.{holding}
use Rattle.mpd_wire.proofs.ListLemmas.{made_more, made_all}
use Rattle.mpd_wire.proofs.look_values.holdings_value.Goals as goal

pub loop-held-preserved : goal.loop-held-preserved
loop-held-preserved c = made_more holding view c.args.holdings.now c.loop-held.values.items c.push.new.self.items c.loop-held.held-index _ c.in_ok-holding_value.field-0 c.loop-held-test.true c.loop-held.invariant (c.in_ok-holding_value.ensures ∙ ap holding c.held-item.is) c.in_ok-push.ensures.items

pub returns : goal.returns
returns c = made_all holding c.loop-held.values c.args.holdings.now c.loop-held.held-index c.loop-held-test.false c.loop-held.invariant
