use Rattle.std.proofs.Common.{ap, subst, sym, ◌∙◌}
use Rattle.std.specs.List.{AllByRecursion}
use Rattle.mpd_model.specs.runs.Trail.{done_steps}
use Rattle.mpd_explore.specs.declared.report.SearchLeaf.{SearchLeaf}
use Rattle.mpd_explore.specs.Ends.{firsts}
use Rattle.mpd_explore.specs.Witness.{HasWitness}
use Rattle.mpd_check.proofs.GroupLemmas.{each_first}
use Rattle.mpd_check.proofs.shown.firsts_of.Goals as goal

pub witnesses_of-requires-clause-listed : goal.witnesses_of-requires-clause-listed
witnesses_of-requires-clause-listed g c =
    let d = c.args.debugger.now in
    let Has : SearchLeaf → Type 0 = HasWitness g.S.Schedule.decides d.trail.program d.trail.mode (done_steps d.trail) c.args.limits.fuel d.world in
    subst (AllByRecursion Has) (sym (c.deref-4.ensures.value ∙ c.in_ok-leaves.ensures ∙ ap firsts c.deref.ensures.value)) (each_first Has c.args.report.now.leaves.items c.requires.listed)

pub returns-clause-has : goal.returns-clause-has
returns-clause-has g c =
    let d = c.args.debugger.now in
    let Has : SearchLeaf → Type 0 = HasWitness g.S.Schedule.decides d.trail.program d.trail.mode (done_steps d.trail) c.args.limits.fuel d.world in
    subst (AllByRecursion Has) (sym (c.in_ok-leaves.ensures ∙ ap firsts c.deref.ensures.value)) (each_first Has c.args.report.now.leaves.items c.requires.listed)
