use Rattle.std.proofs.Common.{refl}
use Rattle.mpd_trail.specs.DebuggerViews.{standing_of}
use Rattle.mpd_explore.specs.Sleeping.{decides_by}
use Rattle.mpd_explore.proofs.SplitLemmas.{reached_at}
use Rattle.mpd_pool.proofs.Places.{part_at}
use Rattle.mpd_pool.proofs.work.compute.Goals as goal

pub explore_piece-found-requires-clause-reaches : goal.explore_piece-found-requires-clause-reaches
explore_piece-found-requires-clause-reaches g c κs within =
    let p = c.index-pieces-number.result in
    reached_at (decides_by c.args.task.limits.ends) c.args.task.limits.fuel c.args.debugger.now.world c.args.debugger.now.world c.args.task.pieces.now c.args.number p p.choices c.requires.within c.index-pieces-number.is refl refl c.requires.can.1

pub returns-clause-part : goal.returns-clause-part
returns-clause-part g c =
    part_at (standing_of c.args.debugger.now) c.args.task.limits c.args.task.pieces.now c.args.number c.index-pieces-number.result c.explore_piece-found.result c.requires.within c.index-pieces-number.is c.explore_piece-found.ensures.part
