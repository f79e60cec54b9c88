-- A console with steps ahead, which are taken once to see that they can be.
use Rattle.std.proofs.Common.{◌≡◌, ℕ, ◌≤◌, List, ◌++◌, length, is_some, Some, None, true, sym, ap, subst, ◌∙◌, arith}
use Rattle.std.specs.Prelude.{Result, Ok, Err, IfOk, IsErrOf}
use Rattle.std.proofs.lemmas.List.{length-append, length-take}
use Rattle.mpd_model.specs.declared.call.Mode.{Mode}
use Rattle.mpd_model.specs.declared.limits.TheConstants.{STEPS_MAX}
use Rattle.mpd_model.specs.declared.step.Step.{Step}
use Rattle.mpd_model.specs.script.Program.{Program}
use Rattle.mpd_model.specs.steps.World.{World, start}
use Rattle.mpd_model.specs.steps.Next.{fold}
use Rattle.mpd_model.specs.runs.Trail.{Standing, IsReached, IsRun, done_steps}
use Rattle.mpd_model.specs.steps.Outcomes.{outcome}
use Rattle.mpd_policy.specs.declared.ending.Ending.{Ending}
use Rattle.mpd_policy.specs.declared.ending.Ending.TheVariants.{Ended, Cut}
use Rattle.mpd_explore.specs.declared.report.EndWitness.{EndWitness}
use Rattle.mpd_explore.specs.declared.report.WitnessEnd.{WitnessEnd}
use Rattle.mpd_explore.specs.Witness.{end_in, end_of, IsEndWitness}
use Rattle.mpd_runs.specs.declared.given.StepsFault.{StepsFault}
use Rattle.mpd_runs.specs.declared.given.StepsFault.TheVariants.{NotEnabled}
use Rattle.mpd_runs.specs.Given.{StopsAt}
use Rattle.mpd_runs.specs.Seek.{EndsAs, LeadsTo}
use Rattle.mpd_console.specs.declared.told.First.{First}
use Rattle.mpd_console.specs.declared.told.First.TheVariants as first
use Rattle.mpd_console.specs.Says.{run_ahead, TellsRun, TellsWitness}

-- a debugger has taken no more steps than it keeps
pub few_behind : (d : Standing) (before steps : List Step) → IsReached d → done_steps d.trail ≡ before ++ steps → length steps ≤ STEPS_MAX
few_behind d before steps reached e = omega (arith, ap length e, length-append before steps, length-take d.trail.depth d.trail.steps, reached.run.few)

pub leads_there : (w v : World) (steps : List Step) (e : Ending) → fold w steps ≡ Some v → EndsAs v e → LeadsTo w steps e
leads_there w v steps e leads ends = record { last = v; leads = leads; ends = ends }

-- from the start of a script
pub run_from_start : (s : Program) (mode : Mode) (w : World) (steps : List Step) (r : Result Ending StepsFault) → w ≡ start s mode → IfOk r (λ _. length steps ≤ STEPS_MAX) → IfOk r (LeadsTo w steps) → IfOk r (λ _. IsRun s mode steps)
run_from_start s mode w steps (Ok e) is few leads = record { leads = subst (λ v. is_some (fold v steps) ≡ true) is (ap is_some leads.leads); few = few }
run_from_start s mode w steps (Err f) is few leads = tt

pub ends_from_start : (s : Program) (mode : Mode) (w : World) (steps : List Step) (r : Result Ending StepsFault) → w ≡ start s mode → IfOk r (LeadsTo w steps) → IfOk r (LeadsTo (start s mode) steps)
ends_from_start s mode w steps r is leads = subst (λ v. IfOk r (LeadsTo v steps)) is leads

pub stops_from_start : (s : Program) (mode : Mode) (w : World) (steps : List Step) (r : Result Ending StepsFault) → w ≡ start s mode → ((place : ℕ) → IsErrOf r (NotEnabled place) → StopsAt w steps place)
    → (place : ℕ) → IsErrOf r (NotEnabled place) → StopsAt (start s mode) steps place
stops_from_start s mode w steps r is stops place err = subst (λ v. StopsAt v steps place) is (stops place err)

pub tells_run : (s : Program) (mode : Mode) (steps : List Step) (e : Ending) (f : First) → LeadsTo (start s mode) steps e → f ≡ first.Ahead (run_ahead steps e) → TellsRun s mode steps f
tells_run s mode steps e f leads is = (e, leads, is)

pub ruleset opening = (leads_there, run_from_start, ends_from_start, stops_from_start, tells_run)

-- ---- a witness

same_world : (v w : World) → Some v ≡ Some w → v ≡ w
same_world v w e = cc

end_there : (w : World) (e : Ending) (end : WitnessEnd) → EndsAs w e → end_in (outcome w) ≡ Some end → end_of e ≡ Some end
end_there w (Ended o) end ends is = sym (ap end_in ends) ∙ is
end_there w Cut end ends is = let none : end_in (outcome w) ≡ None = ap end_in ends in cc

pub tells_witness : (s : Program) (mode : Mode) (x : EndWitness) (f : First) → IsEndWitness s mode x → TellsRun s mode x.steps f → TellsWitness s mode x f
tells_witness s mode x f is h =
    let same : is.last ≡ h.1.last = same_world is.last h.1.last (sym is.leads ∙ h.1.leads) in
    (h.0, end_there h.1.last h.0 x.end h.1.ends (ap (λ v. end_in (outcome v)) (sym same) ∙ is.ends), h.1, h.2)

pub ruleset witnessing = (tells_witness, tells_run)
