-- Where a run ends.
use Rattle.std.proofs.Common.{◌≡◌, ℕ, ◌-◌, [], ◌∷◌, ap, ◌∙◌, arith}
use Rattle.mpd_model.specs.declared.step.Step.{Step}
use Rattle.mpd_model.specs.declared.outcome.Outcome.{Outcome}
use Rattle.mpd_model.specs.declared.decision.Decision.TheVariants.{Forced, Choice, Leaf as Ends}
use Rattle.mpd_model.specs.steps.World.{World}
use Rattle.mpd_policy.specs.Wide.{wide_decision}
use Rattle.mpd_policy.specs.declared.ending.Ending.TheVariants.{Ended, Cut}
use Rattle.mpd_outcomes.specs.Height.{height}
use Rattle.mpd_outcomes.specs.Outcomes.{leaves_from}
use Rattle.mpd_outcomes.specs.Front.{only_leaf}
use Rattle.mpd_outcomes.proofs.WalkLemmas.{leaves_ended, height_ended, forced_cut, choice_cut}
use Rattle.std.specs.Prelude.{List}

pub ends_so : (n : ℕ) (w : World) (o : Outcome) → wide_decision w ≡ Ends o → (leaves_from n w ≡ only_leaf (Ended o) ∷ []) × (height n w ≡ 0)
ends_so n w o d = (leaves_ended n w o d, height_ended n w o d)

nothing_left : (limit depth : ℕ) → limit ≡ depth → limit - depth ≡ 0
nothing_left limit depth at = omega (arith, at)

pub forced_at : (limit depth : ℕ) (w : World) (a : Step) → limit ≡ depth → wide_decision w ≡ Forced a → (leaves_from (limit - depth) w ≡ only_leaf Cut ∷ []) × (height (limit - depth) w ≡ 1)
forced_at limit depth w a at d = let z = nothing_left limit depth at in let h = forced_cut w a d in (ap (λ (n : ℕ). leaves_from n w) z ∙ h.0, ap (λ (n : ℕ). height n w) z ∙ h.1)

pub choice_at : (limit depth : ℕ) (w : World) (candidates : List Step) → limit ≡ depth → wide_decision w ≡ Choice candidates → (leaves_from (limit - depth) w ≡ only_leaf Cut ∷ []) × (height (limit - depth) w ≡ 1)
choice_at limit depth w candidates at d = let z = nothing_left limit depth at in let h = choice_cut w candidates d in (ap (λ (n : ℕ). leaves_from n w) z ∙ h.0, ap (λ (n : ℕ). height n w) z ∙ h.1)
