use Rattle.std.proofs.Common.{◌≡◌, Option, Some, None, refl, sym, ap, subst, ◌∙◌}
use Rattle.std.specs.List.{find, list_all}
use Rattle.std.specs.Option.{option_map}
use Rattle.std.specs.Prelude.{IsSome}
use Rattle.mpd_model.specs.runs.Trail.{done_steps}
use Rattle.mpd_policy.specs.Wide.{wide_decision}
use Rattle.mpd_policy.specs.Walk.{Run}
use Rattle.mpd_explore.specs.declared.report.SearchLeaf.{SearchLeaf}
use Rattle.mpd_explore.specs.Witness.{HasWitness}
use Rattle.mpd_blame.specs.Blame.{ends_well, ends_badly}
use Rattle.mpd_blame.proofs.ListLemmas.{found_has}
use Rattle.mpd_blame.proofs.SightLemmas.{sees_well, sees_others, sees_cut, sees_doomed}
use Rattle.mpd_blame.proofs.sight.sight_of.Goals as goal
use Rattle.mpd_blame.proofs.sight.sight_of.Goals.{then-outcomes-via-then-outcomes, then-outcomes-via-else-outcomes+then-not-all_badly}

pub first_step-requires-clause-some : goal.first_step-requires-clause-some
first_step-requires-clause-some c =
    let d = c.args.debugger.now in
    let items = c.args.outcomes.now.firsts.leaves.items in
    let l : SearchLeaf = c.in-Some.leaf.now in
    let found : find ends_well items ≡ Some l = ap (find ends_well) (sym c.deref.ensures.value) ∙ sym c.first_well.ensures ∙ ap (option_map (λ r. r.now)) c.in-Some.is in
    let has = found_has ends_well (HasWitness wide_decision d.trail.program d.trail.mode (done_steps d.trail) c.args.limits.fuel d.world) items l found c.requires.witnesses in
    subst (λ (r : Option Run). IsSome r) (sym has.by) refl

pub returns-in-Some-clause-sees : goal.returns-in-Some-clause-sees
returns-in-Some-clause-sees c =
    let d = c.args.debugger.now in
    let items = c.args.outcomes.now.firsts.leaves.items in
    let l : SearchLeaf = c.in-Some.leaf.now in
    let found : find ends_well items ≡ Some l = ap (find ends_well) (sym c.deref.ensures.value) ∙ sym c.first_well.ensures ∙ ap (option_map (λ r. r.now)) c.in-Some.is in
    let has = found_has ends_well (HasWitness wide_decision d.trail.program d.trail.mode (done_steps d.trail) c.args.limits.fuel d.world) items l found c.requires.witnesses in
    sees_well c.args.limits.fuel d.world c.args.outcomes.now l c.in_ok-step.step c.requires.told.told found (subst (λ (r : Option Run). IsSome r) (sym has.by) refl) (sym c.in_ok-step.ensures.step)

pub returns-then-outcomes-clause-sees : goal.returns-then-outcomes-clause-sees
returns-then-outcomes-clause-sees c =
    let w = c.args.debugger.now.world in
    let o = c.args.outcomes.now in
    let none : find ends_well o.firsts.leaves.items ≡ None = ap (find ends_well) (sym c.deref.ensures.value) ∙ sym c.first_well.ensures ∙ ap (option_map (λ r. r.now)) c.in_default.is in
    elim c.then-outcomes.branch [
      | then-outcomes-via-then-outcomes t ↦ sees_others c.args.limits c.args.limits.fuel w o c.requires.until c.requires.told c.requires.limit none t.if-outcomes.true
      | then-outcomes-via-else-outcomes+then-not-all_badly t ↦
          sees_cut c.args.limits.visited c.args.limits.fuel w o c.requires.told.told none t.if-outcomes.false (ap (list_all ends_badly) (sym t.deref-else-outcomes.ensures.value) ∙ sym t.all_badly.ensures ∙ t.if-not-all_badly.true)
    ]

pub returns-clause-sees : goal.returns-clause-sees
returns-clause-sees c =
    sees_doomed c.args.limits.fuel c.args.debugger.now.world c.args.outcomes.now c.requires.told.told c.if-outcomes.false (ap (list_all ends_badly) (sym c.deref-else-outcomes.ensures.value) ∙ sym c.all_badly.ensures ∙ c.if-not-all_badly.false)
