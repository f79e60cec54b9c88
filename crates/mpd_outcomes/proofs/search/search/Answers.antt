use Rattle.std.proofs.Common.{true, refl, sym, ap, subst, ◌∙◌, arith}
use Rattle.std.specs.List.{list_any}
use Rattle.mpd_model.specs.runs.Trail.{done_steps}
use Rattle.mpd_trail.specs.DebuggerViews.{standing_of}
use Rattle.mpd_explore.proofs.SearchLemmas.{safe_same, safe_then}
use Rattle.mpd_model.specs.steps.World.{World}
use Rattle.mpd_outcomes.specs.Front.{Search, search_of, open_in, BeforeIn, before, come_now, WentOn}
use Rattle.mpd_outcomes.specs.Goals.{meets_any, ends_at}
use Rattle.mpd_outcomes.proofs.MoveLemmas.{same_search}
use Rattle.mpd_outcomes.proofs.GoalLemmas.{unmet_stops, grown_stops, still_unmet, come_stops, firsts_unmet, ways_now}
use Rattle.mpd_outcomes.proofs.search.search.Goals as goal

pub loop-visited-init : goal.loop-visited-init
loop-visited-init c =
    let d = standing_of c.args.debugger.now in
    record { stands = λ root g. g; few = λ root g. omega arith; none = λ _. refl; unmet = c.requires.unmet; safe = safe_same c.args.bounds.base d d refl c.requires.stands.1.at.reached }

pub turn-requires-clause-stands : goal.turn-requires-clause-stands
turn-requires-clause-stands c =
    let r = c.requires.stands in
    let d = standing_of c.loop-visited.debugger in
    let before = c.loop-visited.invariant.stands r.0 r.1 in
    (r.0, subst (λ (z : Search). BeforeIn z c.loop-visited.front d) (sym (same_search c.args.bounds c.args.debugger.now.trail r.0 (open_in c.loop-visited.front) d before.at)) before)

pub returns-then-not-is_left-clause-stops : goal.returns-then-not-is_left-clause-stops
returns-then-not-is_left-clause-stops c =
    let r = c.requires.stands in
    let d = standing_of c.loop-visited.debugger in
    let now = c.loop-visited.front in
    let h = c.loop-visited.invariant.stands r.0 r.1 in
    let same = same_search c.args.bounds c.args.debugger.now.trail r.0 (open_in now) d h.at in
    let went = c.in_ok-is_left.ensures.went_on r.0 (subst (λ (z : Search). BeforeIn z now d) (sym same) h) in
    grown_stops c.args.limits.until now.ways.items c.turn.new.front.ways.items _ _ c.loop-visited.invariant.unmet went.grows

pub returns-then-not-is_left-clause-stopped : goal.returns-then-not-is_left-clause-stopped
returns-then-not-is_left-clause-stopped c = λ root g.
    let s : Search = search_of c.args.bounds c.args.debugger.now.trail root in
    let d = standing_of c.loop-visited.debugger in
    let e = standing_of c.turn.new.debugger in
    let now = c.loop-visited.front in
    let new = c.turn.new.front in
    let left = c.in_ok-is_left.is_left in
    let h = c.loop-visited.invariant.stands root g in
    let same = same_search c.args.bounds c.args.debugger.now.trail root (open_in now) d h.at in
    let went : WentOn s now d left new e = subst (λ (z : Search). WentOn z now d left new e) same (c.in_ok-is_left.ensures.went_on root (subst (λ (z : Search). BeforeIn z now d) (sym same) h)) in
    let few = c.loop-visited.invariant.few root g in
    let more = went.states in
    record {
      turned = went.turned;
      stops = come_stops c.args.limits.until now.ways.items new.ways.items (before s (open_in now) (done_steps d.trail)) (come_now s left new e) c.loop-visited.invariant.unmet h.ways_are (ways_now s left new e went.turned) went.grows;
      few = omega (arith, few, more);
    }

pub loop-visited-preserved : goal.loop-visited-preserved
loop-visited-preserved c =
    let r = c.requires.stands in
    let begun = standing_of c.args.debugger.now in
    let d = standing_of c.loop-visited.debugger in
    let e = standing_of c.turn.new.debugger in
    let now = c.loop-visited.front in
    let new = c.turn.new.front in
    let went : (root : World) → BeforeIn (search_of c.args.bounds c.args.debugger.now.trail root) c.args.front.now begun → WentOn (search_of c.args.bounds c.args.debugger.now.trail root) now d true new e = λ root g.
    let s : Search = search_of c.args.bounds c.args.debugger.now.trail root in
    let h = c.loop-visited.invariant.stands root g in
    let same = same_search c.args.bounds c.args.debugger.now.trail root (open_in now) d h.at in
    subst (λ b. WentOn s now d b new e) c.if-not-is_left.false
    (subst (λ (z : Search). WentOn z now d c.in_ok-is_left.is_left new e) same (c.in_ok-is_left.ensures.went_on root (subst (λ (z : Search). BeforeIn z now d) (sym same) h)))
    in
    record {
      stands = λ root g. (went root g).turned;
      none = λ is. absurd (omega (arith, is));
      unmet = still_unmet c.args.limits.until new.ways.items (grown_stops c.args.limits.until now.ways.items new.ways.items _ _ c.loop-visited.invariant.unmet (went r.0 r.1).grows)
          (ap (ends_at c.args.limits.until) (sym c.deref.ensures.value) ∙ sym c.if-is_goal_met.ensures);
      few = λ root g. let few = c.loop-visited.invariant.few root g in let more = (went root g).states in omega (arith, few, more);
      safe = safe_then c.args.bounds.base begun d e c.loop-visited.invariant.safe c.in_ok-is_left.ensures.safe;
    }

pub returns-clause-stops : goal.returns-clause-stops
returns-clause-stops c = unmet_stops c.args.limits.until c.loop-visited.front.ways.items c.loop-visited.invariant.unmet

pub returns-clause-stopped : goal.returns-clause-stopped
returns-clause-stopped c = λ root g.
    let s : Search = search_of c.args.bounds c.args.debugger.now.trail root in
    let now = c.loop-visited.front in
    let come = before s (open_in now) (done_steps c.loop-visited.debugger.trail) in
    let h = c.loop-visited.invariant.stands root g in
    record {
      turned = h;
      stops = unmet_stops c.args.limits.until come (firsts_unmet c.args.limits.until come (ap (list_any (meets_any c.args.limits.until)) (sym h.ways_are) ∙ c.loop-visited.invariant.unmet));
      few = (let few = c.loop-visited.invariant.few root g in let test = c.loop-visited-test.false in omega (arith, few, test));
    }

pub returns-then-not-is_left-clause-none : goal.returns-then-not-is_left-clause-none
returns-then-not-is_left-clause-none c = λ none. absurd (let test = c.loop-visited-test.true in omega (arith, none, test))

pub returns-clause-none : goal.returns-clause-none
returns-clause-none c = λ none. (c.loop-visited.invariant.none (let end = c.loop-visited.auto.visited-end in omega (arith, none, end)), refl)
