-- Which replies hold a list, whose copy may want memory.
use Rattle.std.specs.Prelude.{Bool, true, false}
use Rattle.mpd_session.specs.declared.reply.Answer.{Answer}
use Rattle.mpd_session.specs.declared.reply.Answer.TheVariants as answer
use Rattle.mpd_session.specs.declared.reply.Reply.{Reply}
use Rattle.mpd_session.specs.declared.reply.Reply.TheVariants as reply

abbrev pub lists_in : Answer → Bool
lists_in (answer.Depth d) = false
lists_in (answer.Stepped d a) = false
lists_in (answer.Ran d stop) = false
lists_in (answer.Enabled steps) = true
lists_in (answer.State d ranks sets undone outcome) = true
lists_in (answer.Vars vars handles out) = true
lists_in (answer.Calls calls) = true
lists_in (answer.Partners partners) = true
lists_in (answer.Added n) = false
lists_in answer.Removed = false
lists_in (answer.Breaks breaks) = true
lists_in (answer.Hit hit) = false
lists_in (answer.Explored leaves more) = true
lists_in (answer.Script ranks mode vars handles lines) = true
lists_in (answer.Where ranks lines ready held) = true
lists_in (answer.Decided kind steps decls outcome) = true
lists_in (answer.Steps d steps undone) = true
lists_in (answer.Lines lines partners) = true
lists_in (answer.Explained told) = true

abbrev pub holds_list : Reply → Bool
holds_list (reply.Refused r) = false
holds_list (reply.Done v a) = lists_in a
