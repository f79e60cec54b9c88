use Rattle.std.proofs.Common.{◌≡◌, ◌+◌, List, length, ap, ◌∙◌, arith}
use Rattle.std.proofs.lemmas.List.{length-append}
use Rattle.mpd_model.specs.declared.step.Step.{Step}
use Rattle.mpd_model.specs.runs.Trail.{done_steps}
use Rattle.mpd_trail.specs.DebuggerViews.{standing_of}
use Rattle.mpd_policy.specs.Wide.{wide_decision}
use Rattle.mpd_policy.specs.Walk.{run_by, steps_by}
use Rattle.mpd_policy.proofs.WalkLemmas.{beyond_depth, length-done_steps}
use Rattle.mpd_diagnose.proofs.along.go_along.Goals as goal

pub overflow_sub-result : goal.overflow_sub-result
overflow_sub-result c =
    omega (arith, c.depth-base.ensures.value, c.depth.ensures.value, beyond_depth (standing_of c.args.debugger.now) (standing_of c.follow.new.debugger) c.state_is_reached.ensures.reached c.follow.ensures.beyond)

pub returns-clause-steps : goal.returns-clause-steps
returns-clause-steps c =
    let d = standing_of c.args.debugger.now in
    let e = standing_of c.follow.new.debugger in
    let path = steps_by (run_by wide_decision c.args.fuel c.args.choices.now c.args.debugger.now.world) in
    let joined : length (done_steps e.trail) ≡ length (done_steps d.trail) + length path = ap (λ (l : List Step). length l) c.in_ok-follow.ensures.steps ∙ length-append (done_steps d.trail) path in
    omega (arith, c.depth-base.ensures.value, c.depth.ensures.value, joined, length-done_steps d c.state_is_reached.ensures.reached, length-done_steps e c.follow.ensures.beyond.reached)
