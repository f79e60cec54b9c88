use Rattle.std.proofs.Common.{◌≤◌, refl, reverse, sym, ap, subst, List, arith}
use Rattle.std.specs.List.{list_any}
use Rattle.mpd_trail.specs.DebuggerViews.{standing_of}
use Rattle.mpd_outcomes.specs.declared.search.Open.{Open}
use Rattle.mpd_outcomes.specs.Front.{Search, search_of, Before}
use Rattle.mpd_outcomes.specs.Goals.{meets_any}
use Rattle.mpd_outcomes.proofs.StackLemmas.{begun}
use Rattle.mpd_outcomes.proofs.explore.find.Goals as goal

pub find_in-told-requires-clause-stands : goal.find_in-told-requires-clause-stands
find_in-told-requires-clause-stands c =
    let d = standing_of c.args.debugger.now in
    let s : Search = search_of c.args.bounds c.args.debugger.now.trail d.world in
    let f = c.beginning-front in
    let base = c.requires.base in
    let within = c.requires.within in
    let low : d.trail.depth ≤ c.args.bounds.limit = omega (arith, base, within) in
    let before = begun s f.result.ways.items f.result.sums f.result.table d refl refl c.state_is_reached.ensures.reached refl base low f.ensures.ways f.ensures.counts f.ensures.total f.ensures.table in
    (d.world, subst (λ (os : List Open). Before s os f.result.ways.items f.result.sums f.result.table d) (ap reverse (sym f.ensures.stack)) before)

pub find_in-told-requires-clause-unmet : goal.find_in-told-requires-clause-unmet
find_in-told-requires-clause-unmet c = ap (list_any (meets_any c.args.limits.until)) c.beginning-front.ensures.ways

pub returns-clause-last : goal.returns-clause-last
returns-clause-last c =
    let d = standing_of c.args.debugger.now in
    let s : Search = search_of c.args.bounds c.args.debugger.now.trail d.world in
    let f = c.beginning-front in
    let base = c.requires.base in
    let within = c.requires.within in
    let low : d.trail.depth ≤ c.args.bounds.limit = omega (arith, base, within) in
    let before = begun s f.result.ways.items f.result.sums f.result.table d refl refl c.state_is_reached.ensures.reached refl base low f.ensures.ways f.ensures.counts f.ensures.total f.ensures.table in
    c.find_in-told.ensures.last d.world (subst (λ (os : List Open). Before s os f.result.ways.items f.result.sums f.result.table d) (ap reverse (sym f.ensures.stack)) before)
