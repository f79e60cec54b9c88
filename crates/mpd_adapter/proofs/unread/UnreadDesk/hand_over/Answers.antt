use Rattle.std.proofs.Common.{◌++◌, ap, ◌∙◌}
use Rattle.std.specs.List.{flat_map}
use Rattle.mpd_frames.specs.Frame.{frame_text}
use Rattle.mpd_adapter.specs.Unread.{memory_frames}
use Rattle.mpd_adapter.proofs.UnreadLemmas.{unheard}
use Rattle.mpd_adapter.proofs.unread.UnreadDesk.hand_over.Goals as goal

pub returns-in-Err-clause-said : goal.returns-in-Err-clause-said
returns-in-Err-clause-said c =
    unheard c.args.self.now c.tell_memory.new.self c.args.message.now c.args.out.now.items c.tell_memory.new.out.items
    (c.tell_memory.ensures.text ∙ ap (λ y. y ++ flat_map frame_text (memory_frames c.args.self.now)) c.in-Err.ensures.items) c.tell_memory.ensures.number
