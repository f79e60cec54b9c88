use Rattle.std.proofs.Common.{arith}
use Rattle.mpd_trail.specs.DebuggerViews.{standing_of}
use Rattle.mpd_pool.proofs.Places.{filled_long}
use Rattle.mpd_pool.proofs.join.report_of.Goals as goal

pub taken-requires : goal.taken-requires
taken-requires g c = omega (arith, filled_long (standing_of c.args.debugger.now) c.args.task.limits c.args.task.pieces.now c.args.slots.now.items c.requires.filled, c.requires.within)

pub returns-in-Some-clause-part : goal.returns-in-Some-clause-part
returns-in-Some-clause-part g c = c.in-Some.ensures.part (standing_of c.args.debugger.now) c.args.task.limits c.args.task.pieces.now c.requires.filled
