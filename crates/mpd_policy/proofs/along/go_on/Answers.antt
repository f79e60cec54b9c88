use Rattle.std.proofs.Common.{◌≡◌, ◌+◌, ap, sym, ◌∙◌}
use Rattle.mpd_model.specs.declared.decision.Decision.TheVariants.{Forced, Choice}
use Rattle.mpd_model.specs.runs.Trail.{Trail}
use Rattle.mpd_trail.specs.DebuggerViews.{standing_of}
use Rattle.mpd_policy.proofs.WalkLemmas.{gone_forced, goes_chosen}
use Rattle.mpd_policy.proofs.along.go_on.Goals as goal

pub returns-in_ok-forward-in-Forced-clause-goes : goal.returns-in_ok-forward-in-Forced-clause-goes
returns-in_ok-forward-in-Forced-clause-goes g c =
    let d = standing_of c.args.debugger.now in
    let forced : g.S.Schedule.decides d.world ≡ Forced c.in-Forced.step = ap g.S.Schedule.decides (sym c.core.ensures.world) ∙ sym c.in_ok-outcome.ensures.ok ∙ c.in-Forced.is in
    let deeper : c.forward.new.self.trail.depth ≡ d.trail.depth + 1 = ap (λ (t : Trail). t.depth) c.in_ok-forward-in-Forced.ensures.taken.moved.ok in (
      deeper,
      gone_forced g.S.Schedule.decides g.C.Chooser.takes g.C.Chooser.passes d (standing_of c.forward.new.self) c.args.chooser.now c.pass.new.self c.in-Forced.step forced c.in_ok-pass-in-Forced.ensures.passed
          c.in_ok-forward-in-Forced.ensures.taken.world c.in_ok-forward-in-Forced.ensures.taken.steps deeper,
    )

pub returns-in_ok-forward-in-Choice-clause-goes : goal.returns-in_ok-forward-in-Choice-clause-goes
returns-in_ok-forward-in-Choice-clause-goes g c =
    let d = standing_of c.args.debugger.now in
    let choice : g.S.Schedule.decides d.world ≡ Choice c.in-Choice.candidates = ap g.S.Schedule.decides (sym c.core.ensures.world) ∙ sym c.in_ok-outcome.ensures.ok ∙ c.in-Choice.is in
    goes_chosen g.S.Schedule.decides g.C.Chooser.takes g.C.Chooser.passes d (standing_of c.forward-in-Choice.new.self) c.args.chooser.now c.choose.new.self g.C.Chooser.leaves c.in_ok-step-in-Choice.field-0 c.in-Some.step c.in-Choice.candidates
    choice c.in-Some.is c.in_ok-step-in-Choice.ensures.chose c.in_ok-forward-in-Choice.ensures.taken.world c.in_ok-forward-in-Choice.ensures.taken.steps (ap (λ (t : Trail). t.depth) c.in_ok-forward-in-Choice.ensures.taken.moved.ok)
