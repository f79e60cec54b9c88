use Rattle.std.proofs.Common.{◌≡◌, ◌+◌, ◌-◌, [], length, map, ap, ◌∙◌, arith}
use Rattle.mpd_model.specs.runs.Trail.{done_steps}
use Rattle.mpd_trail.specs.Run.{first_of}
use Rattle.mpd_trail.specs.DebuggerViews.{standing_of}
use Rattle.mpd_policy.proofs.WalkLemmas.{length-done_steps}
use Rattle.mpd_explore.specs.declared.report.SearchReport as report
use Rattle.mpd_explore.specs.declared.search.Bounds.{Bounds}
use Rattle.mpd_explore.specs.Report.{shown, listed, left_out}
use Rattle.mpd_explore.specs.Sleeping.{awake_by}
use Rattle.mpd_explore.specs.Search.{Search, search_by, come}
use Rattle.mpd_explore.proofs.ListedLemmas.{first_listed}
use Rattle.mpd_explore.proofs.WitnessLemmas.{on_ok, awake_witnessed}
use Rattle.mpd_explore.proofs.CollectLemmas.{come_is, come_shown}
use Rattle.mpd_explore.proofs.AwakeLemmas.{awake_told}
use Rattle.mpd_explore.proofs.explorer.explore_with.Goals as goal

pub returns-clause-leaves : goal.returns-clause-leaves
returns-clause-leaves g c =
    let d = standing_of c.args.debugger.now in
    let b : Bounds = record { base = c.depth-base.result; limit = c.depth-base.result + c.args.limits.fuel; sleeps = c.args.limits.ends } in
    let s : Search = search_by g.S.Schedule.decides g.S.Schedule.same g.S.Schedule.keeps b (first_of d.trail) in
    let left : s.limit - length (done_steps d.trail) ≡ c.args.limits.fuel = omega (arith, length-done_steps d c.state_is_reached.ensures.reached, c.depth-base.ensures.value) in
    on_ok c.find-found.result _ _ (λ (r : report.SearchReport) h. h.leaves_are ∙ ap (listed c.args.limits) (come_shown s c.args.asleep.now d c.args.limits.fuel left)) c.find-found.ensures.lists

pub returns-clause-more : goal.returns-clause-more
returns-clause-more g c =
    let d = standing_of c.args.debugger.now in
    let b : Bounds = record { base = c.depth-base.result; limit = c.depth-base.result + c.args.limits.fuel; sleeps = c.args.limits.ends } in
    let s : Search = search_by g.S.Schedule.decides g.S.Schedule.same g.S.Schedule.keeps b (first_of d.trail) in
    let left : s.limit - length (done_steps d.trail) ≡ c.args.limits.fuel = omega (arith, length-done_steps d c.state_is_reached.ensures.reached, c.depth-base.ensures.value) in
    on_ok c.find-found.result _ _ (λ (r : report.SearchReport) h. h.more_is ∙ ap (left_out c.args.limits) (come_shown s c.args.asleep.now d c.args.limits.fuel left)) c.find-found.ensures.lists

pub returns-clause-witnesses : goal.returns-clause-witnesses
returns-clause-witnesses g c =
    let d = standing_of c.args.debugger.now in
    let l = c.args.limits in
    let p = g.S.Schedule in
    on_ok c.find-found.result _ _ (λ (r : report.SearchReport) is. awake_witnessed p.decides p.same p.keeps l.ends c.args.asleep.now d.trail.program d.trail.mode (done_steps d.trail) l.fuel (length r.leaves.items) d.world r.leaves.items c.can_be_followed.ensures.follow c.state_is_reached.ensures.reached.world (first_listed l (map shown (awake_by p.decides p.same p.keeps l.ends l.fuel c.args.asleep.now d.world)) r.leaves.items is)) (returns-clause-leaves g c)

pub returns-clause-texts : goal.returns-clause-texts
returns-clause-texts g c =
    let d = standing_of c.args.debugger.now in
    let l = c.args.limits in
    let p = g.S.Schedule in
    let b : Bounds = record { base = c.depth-base.result; limit = c.depth-base.result + l.fuel; sleeps = l.ends } in
    let s : Search = search_by p.decides p.same p.keeps b (first_of d.trail) in
    let left : s.limit - length (done_steps d.trail) ≡ l.fuel = omega (arith, length-done_steps d c.state_is_reached.ensures.reached, c.depth-base.ensures.value) in
    on_ok c.find-found.result _ _ (λ (r : report.SearchReport) h. awake_told p.decides p.same p.keeps l.ends c.args.asleep.now l (done_steps d.trail) l.fuel d.world (come s [] c.args.asleep.now d) r.leaves.items _ (come_is s c.args.asleep.now d l.fuel left) (h.leaves_are ∙ ap (listed l) (come_shown s c.args.asleep.now d l.fuel left)) h.texts_are) c.find-found.ensures.lists
