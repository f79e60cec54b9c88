use Rattle.mpd_adapter.proofs.UnreadLemmas.{unread}
use Rattle.mpd_adapter.proofs.unread.UnreadDeskFrameDesk.answer.Goals as goal

pub returns-in-Err-clause-said : goal.returns-in-Err-clause-said
returns-in-Err-clause-said c = unread c.args.self.now c.tell_memory.new.self c.args.body.now c.args.out.now.items c.tell_memory.new.out.items c.tell_memory.ensures.text c.tell_memory.ensures.number
