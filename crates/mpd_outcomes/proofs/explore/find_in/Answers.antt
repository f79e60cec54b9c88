use Rattle.std.proofs.Common.{sym, ap, subst, ◌∙◌}
use Rattle.mpd_trail.specs.DebuggerViews.{standing_of}
use Rattle.mpd_outcomes.specs.Front.{Search, search_of}
use Rattle.mpd_outcomes.specs.Goals.{StopsAt}
use Rattle.mpd_outcomes.specs.declared.search.Front.{Front}
use Rattle.mpd_outcomes.proofs.AlongLemmas.{stopped_runs}
use Rattle.mpd_outcomes.proofs.GoalLemmas.{told_limit}
use Rattle.mpd_outcomes.proofs.explore.find_in.Goals as goal

pub returns-clause-stops : goal.returns-clause-stops
returns-clause-stops c = subst (StopsAt c.args.limits.until) (sym c.in_ok-outcomes.ensures.leaves) c.in_ok-reach.ensures.stops

pub returns-clause-last : goal.returns-clause-last
returns-clause-last c = λ root g.
    let s : Search = search_of c.args.bounds c.args.debugger.now.trail root in
    let o = c.in_ok-outcomes.ensures in
    let stopped = c.in_ok-reach.ensures.stopped root g in
    stopped_runs s c.args.limits.until c.search.new.front (standing_of c.search.new.debugger) c.in_ok-reach.reach c.in_ok-outcomes.outcomes c.wide_decisions_can_be_followed.ensures stopped o.leaves o.more o.counts o.total o.visited

pub returns-clause-limit : goal.returns-clause-limit
returns-clause-limit c =
    let o = c.in_ok-outcomes.ensures in
    told_limit c.args.limits c.in_ok-reach.reach.more c.in_ok-outcomes.outcomes.firsts.more c.in_ok-reach.reach.visited c.in_ok-outcomes.outcomes.visited c.search.new.front.ways.items c.in_ok-outcomes.outcomes.firsts.leaves.items o.more o.visited o.leaves c.in_ok-reach.ensures.limit

pub returns-clause-none : goal.returns-clause-none
returns-clause-none c = λ none.
    let o = c.in_ok-outcomes.ensures in
    let same = c.in_ok-reach.ensures.none none in
    (o.leaves ∙ ap (λ (f : Front). f.ways.items) same.0, o.more ∙ same.1)
