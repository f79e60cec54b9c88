use Rattle.std.proofs.Common.{refl, sym, subst, reverse}
use Rattle.mpd_trail.specs.Run.{first_of}
use Rattle.mpd_trail.specs.DebuggerViews.{standing_of}
use Rattle.mpd_explore.specs.Search.{Search, search_by, Stopped}
use Rattle.mpd_explore.proofs.SearchLemmas.{stops, same_place, safe_beyond}
use Rattle.mpd_explore.proofs.search.descend.Goals as goal

pub returns-in_err-stop-clause-safe : goal.returns-in_err-stop-clause-safe
returns-in_err-stop-clause-safe g c =
    let d = standing_of c.args.debugger.now in
    let s : Search = search_by g.S.Schedule.decides g.S.Schedule.same g.S.Schedule.keeps c.args.bounds (first_of d.trail) in
    safe_beyond s (reverse c.args.frontier.now.stack.items) d (standing_of c.walk.new.debugger) c.requires.at c.walk.ensures.beyond

pub returns-in_err-ending-clause-safe : goal.returns-in_err-ending-clause-safe
returns-in_err-ending-clause-safe g c =
    let d = standing_of c.args.debugger.now in
    let s : Search = search_by g.S.Schedule.decides g.S.Schedule.same g.S.Schedule.keeps c.args.bounds (first_of d.trail) in
    safe_beyond s (reverse c.args.frontier.now.stack.items) d (standing_of c.walk.new.debugger) c.requires.at c.walk.ensures.beyond

pub returns-clause-safe : goal.returns-clause-safe
returns-clause-safe g c =
    let d = standing_of c.args.debugger.now in
    let s : Search = search_by g.S.Schedule.decides g.S.Schedule.same g.S.Schedule.keeps c.args.bounds (first_of d.trail) in
    safe_beyond s (reverse c.args.frontier.now.stack.items) d (standing_of c.walk.new.debugger) c.requires.at c.walk.ensures.beyond

pub returns-clause-stopped : goal.returns-clause-stopped
returns-clause-stopped g c =
    let d = standing_of c.args.debugger.now in
    let e = standing_of c.walk.new.debugger in
    let s : Search = search_by g.S.Schedule.decides g.S.Schedule.same g.S.Schedule.keeps c.args.bounds (first_of d.trail) in
    let f = c.walk.new.chooser in
    let same = same_place s (λ x. x.sleeps) (λ x. x.frontier.now) (λ x. x.frontier.ghost_name) c.args.bounds.limit d e _ f c.in_ok-stop.stop c.in_ok-stop.ensures.walks in
    let all = stops s (λ x. x.sleeps) (λ x. x.frontier.now) (λ x. x.frontier.ghost_name) c.can_be_followed.ensures.follow d e _ f c.in_ok-stop.stop c.in_ok-ending.ending c.requires.at refl c.walk.ensures.beyond c.in_ok-stop.ensures.walks c.in_ok-ending.ensures.ending in
    subst (λ v. Stopped s (reverse c.args.frontier.now.stack.items) c.args.frontier.now.asleep d c.in_ok-ending.ending (reverse v.stack.items) e) (sym (c.frontier-1.given.1 (sym same))) all
