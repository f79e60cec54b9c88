use Rattle.serde_json.specs.View.{view}
use Rattle.mpd_wire.specs.Replies.{natural}
use Rattle.mpd_wire.proofs.ListLemmas.{made_more, made_all}
use Rattle.mpd_wire.proofs.look_values.numbers_value.Goals as goal

pub loop-number-preserved : goal.loop-number-preserved
loop-number-preserved c = made_more natural view c.args.numbers.now c.loop-number.values.items c.push.new.self.items c.loop-number.number-index _ c.from.result c.loop-number-test.true c.loop-number.invariant c.from.ensures c.in_ok-push.ensures.items

pub returns : goal.returns
returns c = made_all natural c.loop-number.values c.args.numbers.now c.loop-number.number-index c.loop-number-test.false c.loop-number.invariant
