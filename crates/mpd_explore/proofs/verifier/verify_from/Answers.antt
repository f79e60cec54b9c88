use Rattle.std.proofs.Common.{rules, ◌≡◌, ◌≢◌, IfErr}
use Rattle.mpd_model.specs.steps.Outcomes.{outcome}
use Rattle.mpd_explore.specs.declared.verifier.WitnessFault.TheVariants.{Memory}
use Rattle.mpd_explore.specs.Witness.{end_in, IsEndWitnessFrom, HasFault, FaultAtEnd}
use Rattle.mpd_explore.proofs.VerifyLemmas.{stop_fault, end_fault, wants_last, only_memory, accepted_by, left_at_end}
use Rattle.mpd_explore.proofs.verifier.verify_from.Goals as goal

pub returns-in_err-take_steps-clause-fault : goal.returns-in_err-take_steps-clause-fault
returns-in_err-take_steps-clause-fault c =
    let same : c.deref.result.now ≡ c.args.witness.now.steps = search rules in
    let found : c.in_err-take_steps.field-0.0 ≢ Memory → HasFault c.args.core.now.world 0 c.args.witness.now.steps c.args.witness.now.end c.in_err-take_steps.field-0.0 =
    λ k. stop_fault _ c.args.witness.now.steps c.deref.result.now c.args.witness.now.end _ same (c.in_err-take_steps.ensures.fault k) in
    search (rules, found)

pub returns-in_err-take_steps-clause-accepted : goal.returns-in_err-take_steps-clause-accepted
returns-in_err-take_steps-clause-accepted c =
    let same : c.deref.result.now ≡ c.args.witness.now.steps = search rules in
    let found : c.in_err-take_steps.field-0.0 ≢ Memory → HasFault c.args.core.now.world 0 c.args.witness.now.steps c.args.witness.now.end c.in_err-take_steps.field-0.0 =
    λ k. stop_fault _ c.args.witness.now.steps c.deref.result.now c.args.witness.now.end _ same (c.in_err-take_steps.ensures.fault k) in
    let refused : IsEndWitnessFrom c.args.core.now.world c.args.witness.now → c.in_err-take_steps.field-0.0 ≡ Memory = λ h. only_memory _ c.args.witness.now _ h found in
    search (rules, refused)

pub returns-clause-fault : goal.returns-clause-fault
returns-clause-fault c =
    let same : c.deref.result.now ≡ c.args.witness.now.steps = search rules in
    let fault : IfErr c.check_end.result (λ e. e ≢ Memory → FaultAtEnd (end_in (outcome c.take_steps.new.core.world)) c.args.witness.now.end e) = search rules in
    end_fault c.args.core.now.world c.take_steps.new.core.world c.args.witness.now.steps c.deref.result.now c.args.witness.now.end c.check_end.result same c.in_ok-take_steps.ensures.ok fault

pub returns-clause-accepted : goal.returns-clause-accepted
returns-clause-accepted c = accepted_by c.args.core.now.world c.args.witness.now c.check_end.result (returns-clause-fault c)

pub returns-clause-memory : goal.returns-clause-memory
returns-clause-memory c =
    let same : c.deref.result.now ≡ c.args.witness.now.steps = search rules in
    λ k. wants_last c.args.core.now.world c.take_steps.new.core.world c.args.witness.now.steps c.deref.result.now same c.in_ok-take_steps.ensures.ok (c.check_end.ensures.memory k)

pub returns-clause-left : goal.returns-clause-left
returns-clause-left c =
    let same : c.deref.result.now ≡ c.args.witness.now.steps = search rules in
    let fault : IfErr c.check_end.result (λ e. e ≢ Memory → FaultAtEnd (end_in (outcome c.take_steps.new.core.world)) c.args.witness.now.end e) = search rules in
    left_at_end c.args.core.now.world c.take_steps.new.core.world c.args.witness.now.steps c.deref.result.now c.args.witness.now.end c.check_end.result same c.in_ok-take_steps.ensures.ok fault
