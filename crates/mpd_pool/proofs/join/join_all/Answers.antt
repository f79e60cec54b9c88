use Rattle.std.proofs.Common.{map, string_bytes, refl, ap}
use Rattle.mpd_trail.specs.DebuggerViews.{standing_of}
use Rattle.mpd_pool.proofs.Joined.{joined_none}
use Rattle.mpd_pool.proofs.join.join_all.Goals as goal

pub add_all-requires-clause-joined : goal.add_all-requires-clause-joined
add_all-requires-clause-joined g c κs within =
    joined_none (standing_of c.args.debugger.now) c.args.task.limits _ _ _ c.new.ensures.items refl (ap (map string_bytes) c.new-2.ensures.items)
