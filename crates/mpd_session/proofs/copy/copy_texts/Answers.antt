use Rattle.std.proofs.Common.{map, string_bytes, ap, ◌∙◌}
use Rattle.mpd_session.proofs.CopyLemmas.{told_more}
use Rattle.mpd_session.proofs.copy.copy_texts.Goals as goal

pub loop-text-preserved : goal.loop-text-preserved
loop-text-preserved c =
    told_more string_bytes c.args.texts.now (map string_bytes c.loop-text.items.items) (map string_bytes c.push_copy.new.copies.items) c.loop-text.text-index _ c.as_str.result.now c.loop-text-test.true c.loop-text.invariant
    (c.as_str.ensures.value ∙ ap string_bytes c.text-item.is) c.in_ok-push_copy.ensures
