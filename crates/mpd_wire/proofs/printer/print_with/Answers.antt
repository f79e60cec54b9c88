use Rattle.std.proofs.Common.{map, string_bytes}
use Rattle.std.proofs.lemmas.Result.{IfOk-weaker}
use Rattle.mpd_wire.proofs.Texts.{printed}
use Rattle.mpd_wire.proofs.printer.print_with.Goals as goal

pub returns : goal.returns
returns c = IfOk-weaker c.to_string.result _ _ (λ s h. printed (map string_bytes c.args.words.now) c.args.reply.now _ (string_bytes s) c.in_ok-value_of.ensures h) c.to_string.ensures.text
