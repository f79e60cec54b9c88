use Rattle.mpd_adapter.proofs.DeskLemmas.{heard_as, unheard}
use Rattle.mpd_adapter.proofs.desk.AdapterDesk.hear.Goals as goal

pub returns-in-Ok-clause-said : goal.returns-in-Ok-clause-said
returns-in-Ok-clause-said c =
    heard_as c.args.self.now c.hand_over.new.self c.task-task.result _ c.args.message c.args.out.now.items c.hand_over.new.out.items c.task-task.ensures
    (c.hand_over.ensures.said c.args.self.now c.written.ensures.same c.in-Ok.ensures.wrote)

pub returns-in-Err-clause-said : goal.returns-in-Err-clause-said
returns-in-Err-clause-said c =
    heard_as c.args.self.now c.tell_memory.new.self c.task-task.result _ c.args.message c.args.out.now.items c.tell_memory.new.out.items c.task-task.ensures
    (unheard c.args.self.now c.written.new.self c.tell_memory.new.self c.task-task.result c.args.message c.args.out.now.items c.tell_memory.new.out.items c.written.ensures.same c.in-Err.ensures.kept
    c.tell_memory.ensures.text c.tell_memory.ensures.number)
