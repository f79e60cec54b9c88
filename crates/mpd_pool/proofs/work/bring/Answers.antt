use Rattle.mpd_trail.specs.DebuggerViews.{standing_of}
use Rattle.mpd_pool.proofs.Workers.{right_more}
use Rattle.mpd_pool.proofs.work.bring.Goals as goal

pub returns-clause-right : goal.returns-clause-right
returns-clause-right g c =
    right_more (standing_of c.args.debugger.now) c.args.task.limits c.args.task.pieces.now c.args.brought.now.items c.reserve.new.self.items c.push_reserved.new.self.items c.args.number c.in_ok-report.report c.reserve.ensures.items c.push_reserved.ensures.items c.requires.right c.in_ok-report.ensures.part
