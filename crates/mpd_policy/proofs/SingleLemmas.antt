-- The step that comes next where a single candidate is no choice.
use Rattle.std.proofs.Common.{◌≡◌, ◌≢◌, Option, Some, None, List, [], ◌∷◌, length, refl, sym, ap, ◌∙◌, arith}
use Rattle.mpd_model.specs.declared.step.Step.{Step}
use Rattle.mpd_model.specs.declared.decision.Decision.{Decision}
use Rattle.mpd_model.specs.declared.decision.Decision.TheVariants.{Forced, Choice, Leaf}
use Rattle.mpd_model.specs.steps.World.{World}
use Rattle.mpd_model.specs.steps.Outcomes.{ending}
use Rattle.mpd_model.specs.runs.Decisions.{forced_step, choices, chosen_from, decided, decision, CanFollow}
use Rattle.mpd_policy.specs.declared.runs.Taking.{Taking}
use Rattle.mpd_policy.specs.declared.runs.Taking.TheVariants as taking
use Rattle.mpd_policy.specs.Single.{sole, single, only_step, forced_or}
use Rattle.mpd_policy.specs.Ahead.{comes, forced_in}
use Rattle.mpd_policy.proofs.StepKinds.{decided_some, decided_none}
use Rattle.mpd_policy.proofs.Followed.{followed}

pub sole_none : (xs : List Step) → length xs ≢ 1 → None ≡ sole xs
sole_none [] e = refl
sole_none (x ∷ []) e = absurd (e refl)
sole_none (x ∷ y ∷ xs) e = refl

chosen_single : (w : World) (steps : List Step) → single (chosen_from w steps) ≡ sole steps
chosen_single w [] = refl
chosen_single w (a ∷ steps) = refl

pub only_forced : (w : World) (o : Option Step) (a : Step) → o ≡ forced_step w → o ≡ Some a → Some a ≡ only_step w
only_forced w o a is some = sym (ap single (decided_some w a (sym is ∙ some)))

pub only_chosen : (w : World) (o : Option Step) (steps : List Step) → o ≡ forced_step w → o ≡ None → steps ≡ choices w → sole steps ≡ only_step w
only_chosen w o steps is none e = ap sole e ∙ sym (ap single (decided_none w (sym is ∙ none)) ∙ chosen_single w (choices w))

pub ruleset only = (only_forced, only_chosen)

-- ---- what comes next, by what a run takes

forced_of : (w : World) (steps : List Step) → None ≡ forced_in (chosen_from w steps)
forced_of w [] = refl
forced_of w (a ∷ steps) = refl

forced_by : (w : World) (o : Option Step) → o ≡ forced_in (decided w o)
forced_by w (Some a) = refl
forced_by w None = forced_of w (choices w)

forced_now : (w : World) → forced_step w ≡ forced_in (decision w)
unfolding decision
forced_now w = forced_by w (forced_step w)

single_now : (d : Decision) → single d ≡ forced_in (forced_or d (single d))
single_now (Forced a) = refl
single_now (Choice []) = refl
single_now (Choice (a ∷ [])) = refl
single_now (Choice (a ∷ b ∷ steps)) = refl
single_now (Leaf o) = refl

pub comes_forced : (w : World) (o : Option Step) → o ≡ forced_step w → o ≡ forced_in (comes taking.Forced w)
comes_forced w o is = is ∙ forced_now w

pub comes_single : (w : World) (o : Option Step) → o ≡ only_step w → o ≡ forced_in (comes taking.Single w)
comes_single w o is = is ∙ single_now (decision w)

pub ruleset coming = (comes_forced, comes_single)

pub comes_leaf : (t : Taking) (w : World) → decision w ≡ Leaf (ending w) → comes t w ≡ Leaf (ending w)
comes_leaf taking.Forced w e = e
comes_leaf taking.Single w e = ap (λ (d : Decision). forced_or d (single d)) e

narrow_on : (d : Decision) → forced_in (forced_or d (single d)) ≡ None → (forced_or d (single d) ≡ d) × (forced_in d ≡ None)
narrow_on (Forced a) e = let h : Some a ≡ None = e in absurd (cc)
narrow_on (Choice []) e = (refl, refl)
narrow_on (Choice (a ∷ [])) e = let h : Some a ≡ None = e in absurd (cc)
narrow_on (Choice (a ∷ b ∷ steps)) e = (refl, refl)
narrow_on (Leaf o) e = (refl, refl)

-- where a run takes no step, none is forced
pub comes_on : (t : Taking) (w : World) → forced_in (comes t w) ≡ None → (comes t w ≡ decision w) × (forced_step w ≡ None)
comes_on taking.Forced w e = (refl, forced_now w ∙ e)
comes_on taking.Single w e = let both = narrow_on (decision w) e in (both.0, forced_now w ∙ both.1)

narrow_follow : (w : World) (d : Decision) → CanFollow w d → CanFollow w (forced_or d (single d))
narrow_follow w (Forced a) h = h
narrow_follow w (Choice []) h = h
narrow_follow w (Choice (a ∷ [])) h = h.1 0 a (omega arith)
narrow_follow w (Choice (a ∷ b ∷ steps)) h = h
narrow_follow w (Leaf o) h = h

pub comes_followed : (t : Taking) (w : World) → CanFollow w (comes t w)
comes_followed taking.Forced w = followed w
comes_followed taking.Single w = narrow_follow w (decision w) (followed w)
