use Rattle.std.proofs.Common.{sym, subst}
use Rattle.mpd_trail.specs.DebuggerViews.{standing_of}
use Rattle.mpd_explore.proofs.SearchLemmas.{safe_then}
use Rattle.mpd_outcomes.specs.declared.search.Arrived.{Arrived}
use Rattle.mpd_outcomes.specs.Front.{Search, search_of, open_in, IsArrived, BeforeIn}
use Rattle.mpd_outcomes.proofs.MoveLemmas.{gone_down, same_search}
use Rattle.mpd_outcomes.proofs.AlongLemmas.{went_down}
use Rattle.mpd_outcomes.proofs.StackLemmas.{safe_down}
use Rattle.mpd_outcomes.proofs.search.turn.Goals as goal

pub returns-in_err-candidates-clause-safe : goal.returns-in_err-candidates-clause-safe
returns-in_err-candidates-clause-safe c =
    let r = c.requires.stands in
    let s : Search = search_of c.args.bounds c.args.debugger.now.trail r.0 in
    safe_down s (open_in c.args.front.now) (standing_of c.args.debugger.now) (standing_of c.go_down.new.debugger) r.1.at c.go_down.ensures.beyond

pub go_on_at_choice-requires-clause-stands : goal.go_on_at_choice-requires-clause-stands
go_on_at_choice-requires-clause-stands c =
    let r = c.requires.stands in
    let s : Search = search_of c.args.bounds c.args.debugger.now.trail r.0 in
    let e = standing_of c.go_down.new.debugger in
    let down = c.in_ok-candidates.ensures.down in
    let before : BeforeIn s c.args.front.now e =
    gone_down s (open_in c.args.front.now) c.args.front.now.ways.items c.args.front.now.sums c.args.front.now.table (standing_of c.args.debugger.now) e r.1 c.go_down.ensures.beyond down.same down.deeper down.within
    in
    (r.0, subst (λ (z : Search). BeforeIn z c.args.front.now e) (sym (same_search c.args.bounds c.args.debugger.now.trail r.0 (open_in c.args.front.now) e before.at)) before)

pub go_on_at_choice-requires-clause-choice : goal.go_on_at_choice-requires-clause-choice
go_on_at_choice-requires-clause-choice c = (subst (λ (a : Arrived). IsArrived c.args.bounds.limit (standing_of c.go_down.new.debugger) a) c.in-Choice.is c.in_ok-candidates.ensures.down.arrived).0

pub go_on_at_choice-requires-clause-fuel : goal.go_on_at_choice-requires-clause-fuel
go_on_at_choice-requires-clause-fuel c = (subst (λ (a : Arrived). IsArrived c.args.bounds.limit (standing_of c.go_down.new.debugger) a) c.in-Choice.is c.in_ok-candidates.ensures.down.arrived).1

pub go_on_at_end-requires-clause-stands : goal.go_on_at_end-requires-clause-stands
go_on_at_end-requires-clause-stands c =
    let r = c.requires.stands in
    let s : Search = search_of c.args.bounds c.args.debugger.now.trail r.0 in
    let e = standing_of c.go_down.new.debugger in
    let down = c.in_ok-candidates.ensures.down in
    let before : BeforeIn s c.args.front.now e =
    gone_down s (open_in c.args.front.now) c.args.front.now.ways.items c.args.front.now.sums c.args.front.now.table (standing_of c.args.debugger.now) e r.1 c.go_down.ensures.beyond down.same down.deeper down.within
    in
    (r.0, subst (λ (z : Search). BeforeIn z c.args.front.now e) (sym (same_search c.args.bounds c.args.debugger.now.trail r.0 (open_in c.args.front.now) e before.at)) before)

pub go_on_at_end-requires-clause-end : goal.go_on_at_end-requires-clause-end
go_on_at_end-requires-clause-end c = subst (λ (a : Arrived). IsArrived c.args.bounds.limit (standing_of c.go_down.new.debugger) a) c.in-End.is c.in_ok-candidates.ensures.down.arrived

pub returns-in-Choice-clause-went_on : goal.returns-in-Choice-clause-went_on
returns-in-Choice-clause-went_on c = λ root g.
    went_down c.go_on_at_choice.result c.args.bounds c.args.debugger.now.trail root c.args.front.now (standing_of c.args.debugger.now) (standing_of c.go_down.new.debugger) c.in_ok-candidates.field-0
    c.go_on_at_choice.new.front (standing_of c.go_on_at_choice.new.debugger) g c.in_ok-candidates.ensures.down c.go_down.ensures.beyond (c.go_on_at_choice.ensures.went_on root)

pub returns-in-Choice-clause-safe : goal.returns-in-Choice-clause-safe
returns-in-Choice-clause-safe c =
    let r = c.requires.stands in
    let s : Search = search_of c.args.bounds c.args.debugger.now.trail r.0 in
    let d = standing_of c.args.debugger.now in
    let e = standing_of c.go_down.new.debugger in
    safe_then s.base d e (standing_of c.go_on_at_choice.new.debugger) (safe_down s (open_in c.args.front.now) d e r.1.at c.go_down.ensures.beyond) c.go_on_at_choice.ensures.safe

pub returns-in-End-clause-went_on : goal.returns-in-End-clause-went_on
returns-in-End-clause-went_on c = λ root g.
    went_down c.go_on_at_end.result c.args.bounds c.args.debugger.now.trail root c.args.front.now (standing_of c.args.debugger.now) (standing_of c.go_down.new.debugger) c.in_ok-candidates.field-0
    c.go_on_at_end.new.front (standing_of c.go_on_at_end.new.debugger) g c.in_ok-candidates.ensures.down c.go_down.ensures.beyond (c.go_on_at_end.ensures.went_on root)

pub returns-in-End-clause-safe : goal.returns-in-End-clause-safe
returns-in-End-clause-safe c =
    let r = c.requires.stands in
    let s : Search = search_of c.args.bounds c.args.debugger.now.trail r.0 in
    let d = standing_of c.args.debugger.now in
    let e = standing_of c.go_down.new.debugger in
    safe_then s.base d e (standing_of c.go_on_at_end.new.debugger) (safe_down s (open_in c.args.front.now) d e r.1.at c.go_down.ensures.beyond) c.go_on_at_end.ensures.safe
