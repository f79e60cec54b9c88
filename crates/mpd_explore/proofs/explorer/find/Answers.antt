use Rattle.std.proofs.Common.{ap, map, string_bytes, []}
use Rattle.mpd_trail.specs.Run.{first_of}
use Rattle.mpd_trail.specs.DebuggerViews.{standing_of}
use Rattle.mpd_explore.specs.Search.{Search, search_by, come}
use Rattle.mpd_explore.proofs.GatherLemmas.{is_some, lists_nothing}
use Rattle.mpd_explore.proofs.explorer.find.Goals as goal

pub returns-then-is_idle-clause-lists : goal.returns-then-is_idle-clause-lists
returns-then-is_idle-clause-lists g c =
    let d = standing_of c.args.debugger.now in
    let s : Search = search_by g.S.Schedule.decides g.S.Schedule.same g.S.Schedule.keeps c.args.bounds (first_of d.trail) in
    let r = c.nothing_listed-report in
    let idle = c.is_idle.ensures.idle c.if-is_idle.true in
    lists_nothing c.args.limits (come s [] c.args.asleep.now d) r.result.leaves.items _ r.result.more idle.0 (is_some s [] c.args.asleep.now d c.can_be_followed.ensures.follow c.can_be_followed.ensures.none idle.1) r.ensures.leaves (ap (map string_bytes) r.ensures.witnesses) r.ensures.more
