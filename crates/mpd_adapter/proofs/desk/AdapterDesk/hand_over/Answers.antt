use Rattle.std.proofs.Common.{◌++◌, ap, ◌∙◌}
use Rattle.std.specs.List.{flat_map}
use Rattle.mpd_frames.specs.Frame.{frame_text}
use Rattle.mpd_adapter.specs.Says.{memory_frames}
use Rattle.mpd_adapter.proofs.DeskLemmas.{unheard_behind}
use Rattle.mpd_adapter.proofs.desk.AdapterDesk.hand_over.Goals as goal

pub returns-in-Err-clause-said : goal.returns-in-Err-clause-said
returns-in-Err-clause-said c d only wrote =
    unheard_behind d c.args.self.now c.tell_memory.new.self c.args.task c.args.message c.args.sheet.now.text.items c.args.out.now.items c.tell_memory.new.out.items c.args.sheet.now.number only wrote
    (c.tell_memory.ensures.text ∙ ap (λ y. y ++ flat_map frame_text (memory_frames c.args.self.now)) c.in-Err.ensures.items)
    c.tell_memory.ensures.number
