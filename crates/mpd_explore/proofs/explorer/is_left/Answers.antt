use Rattle.std.proofs.Common.{reverse}
use Rattle.mpd_trail.specs.Run.{first_of}
use Rattle.mpd_trail.specs.DebuggerViews.{standing_of}
use Rattle.mpd_explore.specs.Search.{search_by}
use Rattle.mpd_explore.proofs.GatherLemmas.{is_some}
use Rattle.mpd_explore.proofs.explorer.is_left.Goals as goal

pub returns-then-is_none-clause-more : goal.returns-then-is_none-clause-more
returns-then-is_none-clause-more g c =
    let d = standing_of c.args.debugger.now in
    let f = c.args.frontier.now in
    is_some (search_by g.S.Schedule.decides g.S.Schedule.same g.S.Schedule.keeps c.args.bounds (first_of d.trail)) (reverse f.stack.items) f.asleep d c.can_be_followed.ensures.follow c.can_be_followed.ensures.none (c.is_none.ensures c.if-is_none.true)
