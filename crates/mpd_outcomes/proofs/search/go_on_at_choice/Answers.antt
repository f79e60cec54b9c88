use Rattle.std.proofs.Common.{◌≡◌, ◌<◌, true, inl, sym, subst}
use Rattle.std.specs.Prelude.{IfOk}
use Rattle.mpd_model.specs.runs.Trail.{done_steps}
use Rattle.mpd_trail.specs.DebuggerViews.{standing_of}
use Rattle.mpd_explore.proofs.SearchLemmas.{safe_then}
use Rattle.mpd_outcomes.specs.Front.{Search, search_of, open_in, AfterIn, Met, Turned, come_now, come_to, states_now, states_met}
use Rattle.mpd_outcomes.proofs.AlongLemmas.{advanced}
use Rattle.mpd_outcomes.proofs.MoveLemmas.{same_search}
use Rattle.mpd_outcomes.proofs.search.go_on_at_choice.Goals as goal

pub returns-in_err-is_open-clause-safe : goal.returns-in_err-is_open-clause-safe
returns-in_err-is_open-clause-safe c = c.in_err-is_open.ensures.safe

pub returns-then-is_open-clause-went_on : goal.returns-then-is_open-clause-went_on
returns-then-is_open-clause-went_on c = λ root g.
    let s : Search = search_of c.args.bounds c.args.debugger.now.trail root in
    let d = standing_of c.args.debugger.now in
    let e = standing_of c.meet.new.debugger in
    record {
      turned = subst (λ b. Met s b c.meet.new.front e) c.if-is_open.true (c.in_ok-is_open.ensures.met root g);
      grows = inl c.in_ok-is_open.ensures.ways;
      states = subst (λ b. states_now s true c.args.front.now d < states_met s b c.meet.new.front e) c.if-is_open.true (c.in_ok-is_open.ensures.states root g);
    }

pub returns-then-is_open-clause-safe : goal.returns-then-is_open-clause-safe
returns-then-is_open-clause-safe c = c.in_ok-is_open.ensures.safe

pub advance-requires-clause-stands : goal.advance-requires-clause-stands
advance-requires-clause-stands c =
    let r = c.requires.stands in
    let s : Search = search_of c.args.bounds c.args.debugger.now.trail r.0 in
    let e = standing_of c.meet.new.debugger in
    let after : AfterIn s c.meet.new.front e = subst (λ b. Met s b c.meet.new.front e) c.if-is_open.false (c.in_ok-is_open.ensures.met r.0 r.1) in
    (r.0, subst (λ (z : Search). AfterIn z c.meet.new.front e) (sym (same_search c.args.bounds c.args.debugger.now.trail r.0 (open_in c.meet.new.front) e after.at)) after)

pub returns-clause-went_on : goal.returns-clause-went_on
returns-clause-went_on c = λ root g.
    let s : Search = search_of c.args.bounds c.args.debugger.now.trail root in
    let d = standing_of c.args.debugger.now in
    let m = standing_of c.meet.new.debugger in
    let e = standing_of c.advance.new.debugger in
    let f = c.args.front.now in
    let mid = c.meet.new.front in
    let after : AfterIn s mid m = subst (λ b. Met s b mid m) c.if-is_open.false (c.in_ok-is_open.ensures.met root g) in
    let same = same_search c.args.bounds c.args.debugger.now.trail root (open_in mid) m after.at in
    let there = subst (λ (z : Search). AfterIn z mid m) (sym same) after in
    advanced c.advance.result s f mid c.advance.new.front d m e (subst (λ b. states_now s true f d < states_met s b mid m) c.if-is_open.false (c.in_ok-is_open.ensures.states root g)) (inl c.in_ok-is_open.ensures.ways)
    (subst (λ (z : Search). IfOk c.advance.result (λ b. Turned z b c.advance.new.front e)) same (c.advance.ensures.turned root there)) c.advance.ensures.ways
    (subst (λ (z : Search). IfOk c.advance.result (λ b. come_now z b c.advance.new.front e ≡ come_to z (open_in mid) (done_steps m.trail))) same (c.advance.ensures.come root there))

pub returns-clause-safe : goal.returns-clause-safe
returns-clause-safe c =
    safe_then c.args.bounds.base (standing_of c.args.debugger.now) (standing_of c.meet.new.debugger) (standing_of c.advance.new.debugger) c.in_ok-is_open.ensures.safe c.advance.ensures.safe
