use Rattle.std.proofs.Common.{◌+◌, ◌<◌, length, refl, ap, ◌∙◌, arith}
use Rattle.mpd_model.specs.runs.Trail.{done_steps}
use Rattle.mpd_runs.proofs.GivenLemmas.{given_on, given_stops, given_kept}
use Rattle.mpd_runs.proofs.given.take_steps.Goals as goal

pub loop-step-preserved : goal.loop-step-preserved
loop-step-preserved c =
    let t = c.loop-step.invariant in
    let steps = c.args.steps.now in
    let i = c.loop-step.step-index in
    let told = c.in-Ok.ensures in
    let within : i < length steps = omega (arith, c.loop-step-test.true) in
    record {
      place = ap (λ k. k + 1) t.place;
      taken = given_kept steps i _ _ (done_steps c.args.debugger.now.trail) (done_steps c.loop-step.debugger.trail) (done_steps c.take_at.new.debugger.trail) within refl t.taken told.steps;
      leads = given_on steps i _ _ c.args.debugger.now.world c.loop-step.debugger.world c.take_at.new.debugger.world within refl t.leads told.leads;
    }

pub returns-in-Err-clause-not_enabled : goal.returns-in-Err-clause-not_enabled
returns-in-Err-clause-not_enabled c place h =
    let t = c.loop-step.invariant in
    let steps = c.args.steps.now in
    let i = c.loop-step.step-index in
    let within : i < length steps = omega (arith, c.loop-step-test.true) in
    given_stops steps i place _ _ c.args.debugger.now.world c.loop-step.debugger.world within refl t.leads (c.in-Err.ensures.not_enabled place h) (c.in-Err.ensures.at place h ∙ t.place)
