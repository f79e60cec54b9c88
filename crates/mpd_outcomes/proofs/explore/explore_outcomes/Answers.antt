use Rattle.std.proofs.Common.{List, sym, subst}
use Rattle.std.specs.List.{AllByRecursion}
use Rattle.mpd_model.specs.runs.Trail.{done_steps}
use Rattle.mpd_model.specs.steps.World.{World}
use Rattle.mpd_trail.specs.DebuggerViews.{standing_of}
use Rattle.mpd_policy.specs.Wide.{wide_decision}
use Rattle.mpd_explore.specs.declared.report.SearchLeaf.{SearchLeaf}
use Rattle.mpd_explore.specs.Witness.{HasWitness}
use Rattle.mpd_outcomes.specs.Outcomes.{TellsRuns}
use Rattle.mpd_outcomes.proofs.GatherLemmas.{witnessed}
use Rattle.mpd_outcomes.proofs.explore.explore_outcomes.Goals as goal

pub texts_of-requires-clause-listed : goal.texts_of-requires-clause-listed
texts_of-requires-clause-listed c =
    let d = standing_of c.found_from.new.debugger in
    let told = subst (λ (w : World). TellsRuns c.args.limits.fuel w c.in_ok-outcomes.outcomes) (sym c.found_from.ensures.as_found.world) c.in_ok-outcomes.ensures.last.told in
    subst (λ (ls : List SearchLeaf). AllByRecursion (HasWitness wide_decision d.trail.program d.trail.mode (done_steps d.trail) c.args.limits.fuel d.world) ls) (sym c.deref.ensures.value)
    (witnessed d c.args.limits.fuel c.in_ok-outcomes.outcomes c.wide_decisions_can_be_followed.ensures c.found_from.ensures.as_found.reached told)

pub returns-in-Ok-clause-witnesses : goal.returns-in-Ok-clause-witnesses
returns-in-Ok-clause-witnesses c =
    witnessed (standing_of c.args.debugger.now) c.args.limits.fuel c.in_ok-outcomes.outcomes c.wide_decisions_can_be_followed.ensures c.state_is_reached.ensures.reached c.in_ok-outcomes.ensures.last.told

pub returns-in-Ok-clause-told : goal.returns-in-Ok-clause-told
returns-in-Ok-clause-told c =
    let t = c.in_ok-outcomes.ensures.last.told in
    record { runs = t.runs; few = t.few; firsts_are = t.firsts_are; counts_are = t.counts_are; total_is = t.total_is; more_is = t.more_is }

pub returns-in-Ok-clause-last : goal.returns-in-Ok-clause-last
returns-in-Ok-clause-last c =
    let l = c.in_ok-outcomes.ensures.last in
    let t = l.told in
    record { told = record { runs = t.runs; few = t.few; firsts_are = t.firsts_are; counts_are = t.counts_are; total_is = t.total_is; more_is = t.more_is }; stops = l.stops; few = l.few }
