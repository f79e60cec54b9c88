use Rattle.std.proofs.Common.{string_bytes, ap, ◌∙◌}
use Rattle.serde_json.specs.Data.{string}
use Rattle.serde_json.specs.View.{view}
use Rattle.mpd_wire.proofs.ListLemmas.{made_twice, made_all_twice}
use Rattle.mpd_wire.proofs.printer.texts_value.Goals as goal

pub loop-text-preserved : goal.loop-text-preserved
loop-text-preserved c =
    made_twice string string_bytes view c.args.texts.now c.loop-text.values.items c.push.new.self.items c.loop-text.text-index _ c.in_ok-try_from_str.field-0 c.loop-text-test.true c.loop-text.invariant
    (c.in_ok-try_from_str.ensures ∙ ap string (c.as_str.ensures.value ∙ ap string_bytes c.text-item.is)) c.in_ok-push.ensures.items

pub returns : goal.returns
returns c = made_all_twice string string_bytes c.loop-text.values c.args.texts.now c.loop-text.text-index c.loop-text-test.false c.loop-text.invariant
