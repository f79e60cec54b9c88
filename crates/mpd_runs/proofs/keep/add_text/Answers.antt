use Rattle.std.proofs.Common.{string_bytes, ap, sym, ◌∙◌}
use Rattle.mpd_explore.specs.Asked.{are_asked}
use Rattle.mpd_runs.specs.Drawing.{text_in}
use Rattle.mpd_runs.proofs.KeepLemmas.{text_put}
use Rattle.mpd_runs.proofs.keep.add_text.Goals as goal

pub returns : goal.returns
returns c = text_put text_in (are_asked c.args.asked) c.in_ok-new.field-0 c.args.texts.now.items c.insert.new.self.items c.args.place _ (sym c.are_asked.ensures ∙ c.if-not-are_asked.false) c.in_ok-insert.ensures.items (ap string_bytes c.in_ok-new.ensures.ok ∙ c.in_ok-text.ensures)
