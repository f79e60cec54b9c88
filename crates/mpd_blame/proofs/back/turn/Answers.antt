use Rattle.std.proofs.Common.{◌≡◌, ◌≤◌, ◌+◌, ◌-◌, suc, true, sym, Some, None, refl, ap, subst, ◌∙◌, slice_get, arith}
use Rattle.mpd_model.specs.runs.Trail.{Trail, Standing, done_steps}
use Rattle.mpd_outcomes.specs.Goals.{states_along}
use Rattle.mpd_outcomes.specs.declared.report.StateLimits.{StateLimits}
use Rattle.mpd_outcomes.specs.Outcomes.{leaves_from}
use Rattle.mpd_trail.specs.DebuggerViews.{standing_of}
use Rattle.mpd_policy.specs.Wide.{wide_decision}
use Rattle.mpd_blame.specs.declared.sight.Sight.{Sight}
use Rattle.mpd_blame.specs.declared.sight.Sight.TheVariants as sight_is
use Rattle.mpd_blame.specs.Blame.{is_doomed, tells, Sees}
use Rattle.mpd_blame.proofs.BackLemmas.{only_doomed, has_first, told_turned, turned_same}
use Rattle.mpd_blame.proofs.back.turn.Goals as goal

pub returns-then-branch-clause-turned : goal.returns-then-branch-clause-turned
returns-then-branch-clause-turned c =
    let d = c.args.debugger.now in
    let e = c.step_back-taken.new.debugger in
    let deep : e.trail.depth ≡ d.trail.depth - 1 = ap (λ (t : Trail). t.depth) c.step_back-taken.ensures.trail in
    let n = c.args.limits.now.fuel - d.trail.depth in
    let some = c.requires.some in
    let within = c.requires.within in
    let more : suc n ≡ c.args.limits.now.fuel - e.trail.depth = omega (arith, deep, some, within) in
    subst (λ m. is_doomed m e.world ≡ true) more (only_doomed n e.world d.world c.step_back-taken.result (wide_decision e.world) refl (c.in_ok-is_only.ensures.0 c.if-branch.true) c.step_back-taken.ensures.leads c.requires.doomed)

pub told-requires : goal.told-requires
told-requires c = λ is.
    let d = c.args.debugger.now in
    let e = c.step_back-taken.new.debugger in
    let deep : e.trail.depth ≡ d.trail.depth - 1 = ap (λ (t : Trail). t.depth) c.step_back-taken.ensures.trail in
    let some = c.requires.some in
    let within = c.requires.within in
    let n = c.args.limits.now.fuel - e.trail.depth in
    has_first n e.world d.world c.step_back-taken.result (omega (arith, deep, some, within)) (c.wide_decisions_can_be_followed.ensures e.world)
    (c.reached_worlds_have_calls.ensures e.trail.program e.trail.mode (done_steps e.trail) e.world c.step_back-taken.ensures.reached.world) c.every_step_that_leads_on_is_listed.ensures c.step_back-taken.ensures.leads
    (subst (λ (s : Sight). Sees c.args.limits.now.visited n e.world s) is c.in_ok-sight.ensures.sees)

pub returns-clause-turned : goal.returns-clause-turned
returns-clause-turned c =
    let d = c.args.debugger.now in
    let e = c.step_back-taken.new.debugger in
    let deep : e.trail.depth ≡ d.trail.depth - 1 = ap (λ (t : Trail). t.depth) c.step_back-taken.ensures.trail in
    let here : slice_get d.trail.steps e.trail.depth ≡ Some c.step_back-taken.result = ap (slice_get d.trail.steps) deep ∙ c.step_back-taken.ensures.step in
    let some = c.requires.some in
    let within = c.requires.within in
    let n = c.args.limits.now.fuel - e.trail.depth in
    let not : (c.in_ok-sight.field-0.sight ≡ sight_is.Well None → ⊥) = λ is.
    has_first n e.world d.world c.step_back-taken.result (omega (arith, deep, some, within)) (c.wide_decisions_can_be_followed.ensures e.world)
    (c.reached_worlds_have_calls.ensures e.trail.program e.trail.mode (done_steps e.trail) e.world c.step_back-taken.ensures.reached.world) c.every_step_that_leads_on_is_listed.ensures c.step_back-taken.ensures.leads
    (subst (λ (s : Sight). Sees c.args.limits.now.visited n e.world s) is c.in_ok-sight.ensures.sees)
    in
    let depth : c.depth.result ≡ e.trail.depth = c.depth.ensures.value ∙ ap (λ (t : Trail). t.depth) c.look.ensures.as_found.trail in
    turned_same c.args.limits.now.visited c.args.limits.now.fuel (standing_of d) (standing_of e) (standing_of c.look.new.debugger) c.told.result c.look.ensures.as_found.trail c.look.ensures.as_found.world
    (told_turned c.args.limits.now.visited c.args.limits.now.fuel (standing_of d) (standing_of e) c.step_back-taken.result c.in_ok-sight.field-0.sight c.told.result here c.in_ok-sight.ensures.sees not (c.told.ensures ∙ ap (λ k. tells k c.step_back-taken.result c.in_ok-sight.field-0.sight) depth))

pub returns-clause-spent : goal.returns-clause-spent
returns-clause-spent c =
    let e = standing_of c.step_back-taken.new.debugger in
    let few = c.in_ok-sight.ensures.few in
    let left = ap (λ (l : StateLimits). l.visited) c.limits_after.ensures in
    subst (λ (s : Standing). c.args.limits.now.visited ≤ c.limits_after.result.visited + states_along (leaves_from (c.args.limits.now.fuel - s.trail.depth) s.world))
    (λ i. record { trail = sym c.look.ensures.as_found.trail i; world = sym c.look.ensures.as_found.world i }) (omega (arith, few, left))
