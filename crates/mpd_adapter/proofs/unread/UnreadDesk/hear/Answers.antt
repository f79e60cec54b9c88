use Rattle.std.proofs.Common.{ap}
use Rattle.mpd_adapter.specs.Unread.{Unread}
use Rattle.mpd_adapter.proofs.UnreadLemmas.{unheard, sheet_of}
use Rattle.mpd_adapter.proofs.unread.UnreadDesk.hear.Goals as goal

pub hand_over-requires-clause-sheet : goal.hand_over-requires-clause-sheet
hand_over-requires-clause-sheet c =
    sheet_of c.args.self.now _ c.in-Ok.sheet.number c.args.message.now _ c.in-Ok.sheet.text.items (ap (λ (x : Unread). x.number) c.self.view_is) (ap (λ (x : Unread). x.told) c.self.view_is) c.in-Ok.ensures

pub returns-in-Err-clause-said : goal.returns-in-Err-clause-said
returns-in-Err-clause-said c =
    unheard c.args.self.now c.tell_memory.new.self c.args.message.now c.args.out.now.items c.tell_memory.new.out.items c.tell_memory.ensures.text c.tell_memory.ensures.number
