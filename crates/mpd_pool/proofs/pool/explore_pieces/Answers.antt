use Rattle.std.proofs.Common.{arith}
use Rattle.mpd_trail.specs.DebuggerViews.{standing_of}
use Rattle.mpd_pool.proofs.Places.{filled_none}
use Rattle.mpd_pool.proofs.pool.explore_pieces.Goals as goal

pub share_out-requires-clause-filled : goal.share_out-requires-clause-filled
share_out-requires-clause-filled g c κs within =
    filled_none (standing_of c.args.debugger.now) c.args.task.limits c.args.task.pieces.now c.in_ok-slots.slots.items (omega (arith, c.in_ok-slots.ensures.0)) c.in_ok-slots.ensures.1
