use Rattle.std.proofs.Common.{rules, ◌≡◌, ◌≢◌, IfErr}
use Rattle.mpd_model.specs.steps.Outcomes.{outcome}
use Rattle.mpd_explore.specs.declared.report.WitnessEnd.TheVariants.{Deadlock}
use Rattle.mpd_explore.specs.declared.verifier.WitnessFault.TheVariants.{Memory}
use Rattle.mpd_explore.specs.Witness.{end_in, HasFault, FaultAtEnd}
use Rattle.mpd_explore.proofs.VerifyLemmas.{stop_fault, end_fault}
use Rattle.mpd_explore.proofs.verifier.verify_deadlock.Goals as goal

pub returns-in_err-take_steps-clause-fault : goal.returns-in_err-take_steps-clause-fault
returns-in_err-take_steps-clause-fault c =
    let same : c.deref.result.now ≡ c.args.told.now.steps = search rules in
    let found : c.in_err-take_steps.field-0.0 ≢ Memory → HasFault c.args.core.now.world 0 c.args.told.now.steps (Deadlock c.args.told.now.blocked) c.in_err-take_steps.field-0.0 =
    λ k. stop_fault _ c.args.told.now.steps c.deref.result.now (Deadlock c.args.told.now.blocked) _ same (c.in_err-take_steps.ensures.fault k) in
    search (rules, found)

pub returns-clause-fault : goal.returns-clause-fault
returns-clause-fault c =
    let same : c.deref.result.now ≡ c.args.told.now.steps = search rules in
    let fault : IfErr c.check_stuck.result (λ e. e ≢ Memory → FaultAtEnd (end_in (outcome c.take_steps.new.core.world)) (Deadlock c.args.told.now.blocked) e) = search rules in
    end_fault c.args.core.now.world c.take_steps.new.core.world c.args.told.now.steps c.deref.result.now (Deadlock c.args.told.now.blocked) c.check_stuck.result same c.in_ok-take_steps.ensures.ok fault
