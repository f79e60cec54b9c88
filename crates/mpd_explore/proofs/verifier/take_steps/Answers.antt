use Rattle.std.proofs.Common.{rules, ap, ◌≡◌, ◌≢◌, Err}
use Rattle.mpd_explore.specs.declared.verifier.WitnessFault.TheVariants.{Memory}
use Rattle.mpd_explore.specs.Stops.{StopsAt, IsLeft, WantsMemory}
use Rattle.mpd_explore.proofs.VerifyLemmas.{leads_more, stops_here, wants_here, left_here}
use Rattle.mpd_explore.proofs.verifier.take_steps.Goals as goal

pub loop-place-preserved : goal.loop-place-preserved
loop-place-preserved c = leads_more _ _ _ c.loop-place.place c.args.steps.now _ c.loop-place-test.true c.loop-place.invariant c.in_ok-take_step.ensures.ok

pub returns-in_err-take_step-clause-fault : goal.returns-in_err-take_step-clause-fault
returns-in_err-take_step-clause-fault c =
    let stops : c.in_err-take_step.field-0.0 ≢ Memory → StopsAt c.args.core.now.world c.args.steps.now c.in_err-take_step.field-0.0 =
    λ k. stops_here _ _ c.loop-place.place c.args.steps.now _ _ c.loop-place-test.true c.loop-place.invariant (c.in_err-take_step.ensures.fault k) in
    search (rules, stops)

pub returns-in_err-take_step-clause-memory : goal.returns-in_err-take_step-clause-memory
returns-in_err-take_step-clause-memory c =
    let wants : c.in_err-take_step.field-0.0 ≡ Memory → WantsMemory c.args.core.now.world c.args.steps.now c.take_step.new.core.world =
    λ k. wants_here _ _ _ c.loop-place.place c.args.steps.now _ c.loop-place-test.true c.loop-place.invariant (c.in_err-take_step.ensures.memory (ap Err k)) c.in_err-take_step.ensures.err in
    search (rules, wants)

pub returns-in_err-take_step-clause-left : goal.returns-in_err-take_step-clause-left
returns-in_err-take_step-clause-left c =
    let left : IsLeft c.args.core.now.world c.args.steps.now c.take_step.new.core.world c.in_err-take_step.field-0.0 =
    left_here _ _ _ c.loop-place.place c.args.steps.now _ c.loop-place.invariant c.in_err-take_step.ensures.err (λ k. (c.in_err-take_step.ensures.fault k).0) in
    search (rules, left)
