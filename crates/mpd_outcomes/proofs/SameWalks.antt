-- Worlds that are alike have the same wide walk.
use Rattle.std.proofs.Common.{◌≡◌, ℕ, zero, suc, ◌+◌, max, Option, Some, None, is_some, List, [], ◌∷◌, ◌++◌, map, refl, ap, ◌∙◌}
use Rattle.mpd_model.specs.declared.step.Step.{Step}
use Rattle.mpd_model.specs.declared.decision.Decision.{Decision}
use Rattle.mpd_model.specs.declared.decision.Decision.TheVariants.{Forced, Choice, Leaf}
use Rattle.mpd_model.specs.steps.World.{World}
use Rattle.mpd_model.specs.steps.Next.{next}
use Rattle.mpd_policy.specs.Wide.{wide_decision}
use Rattle.mpd_policy.specs.Walk.{stepped, chosen, runs_of, branches, followed, stopped, wide_walk}
use Rattle.mpd_outcomes.specs.Height.{height_of, highest, height_by, height_stopped, height}
use Rattle.mpd_outcomes.proofs.Alike.{Alike, Tidy}
use Rattle.mpd_outcomes.proofs.Comes.{enabled_alike, wide_decision_alike}
use Rattle.mpd_outcomes.proofs.Follow.{follow, stays_tidy}

abbrev AllSame : ℕ → Type 0
AllSame n = (w v : World) → Alike w v → Tidy w → Tidy v → wide_walk n w ≡ wide_walk n v

behind : (n : ℕ) → AllSame n → (w v : World) → Alike w v → Tidy w → Tidy v → (a : Step) → (o k : Option World) → next w a ≡ o → next v a ≡ k → is_some o ≡ is_some k → runs_of (wide_walk n) o ≡ runs_of (wide_walk n) k
behind n ih w v h tw tv a None None e g same = refl
behind n ih w v h tw tv a None (Some y) e g same = absurd (cc)
behind n ih w v h tw tv a (Some x) None e g same = absurd (cc)
behind n ih w v h tw tv a (Some x) (Some y) e g same = ih x y (follow w v h tw tv a x y e g) (stays_tidy w a x tw e) (stays_tidy v a y tv g)

by_step : (n : ℕ) → AllSame n → (w v : World) → Alike w v → Tidy w → Tidy v → (a : Step) → runs_of (wide_walk n) (next w a) ≡ runs_of (wide_walk n) (next v a)
by_step n ih w v h tw tv a = behind n ih w v h tw tv a (next w a) (next v a) refl refl (enabled_alike w v h tw tv a)

by_branches : (n : ℕ) → AllSame n → (w v : World) → Alike w v → Tidy w → Tidy v → (i : ℕ) (candidates : List Step) → branches (wide_walk n) w i candidates ≡ branches (wide_walk n) v i candidates
by_branches n ih w v h tw tv i [] = refl
by_branches n ih w v h tw tv i (a ∷ more) = λ j. map (chosen i a) (by_step n ih w v h tw tv a j) ++ by_branches n ih w v h tw tv (suc i) more j

by_decision : (n : ℕ) → AllSame n → (w v : World) → Alike w v → Tidy w → Tidy v → (d : Decision) → followed (wide_walk n) (wide_walk n) w d ≡ followed (wide_walk n) (wide_walk n) v d
by_decision n ih w v h tw tv (Forced a) = ap (map (stepped a)) (by_step n ih w v h tw tv a)
by_decision n ih w v h tw tv (Choice candidates) = by_branches n ih w v h tw tv 0 candidates
by_decision n ih w v h tw tv (Leaf o) = refl

pub same_walk : (n : ℕ) → AllSame n
unfolding wide_walk
same_walk zero w v h tw tv = ap stopped (wide_decision_alike w v h tw tv)
same_walk (suc n) w v h tw tv = by_decision n (same_walk n) w v h tw tv (wide_decision w) ∙ ap (followed (wide_walk n) (wide_walk n) v) (wide_decision_alike w v h tw tv)

-- ---- and their longest runs have as many steps

abbrev AllAsHigh : ℕ → Type 0
AllAsHigh n = (w v : World) → Alike w v → Tidy w → Tidy v → height n w ≡ height n v

high_behind : (n : ℕ) → AllAsHigh n → (w v : World) → Alike w v → Tidy w → Tidy v → (a : Step) → (o k : Option World) → next w a ≡ o → next v a ≡ k → is_some o ≡ is_some k → height_of (height n) o ≡ height_of (height n) k
high_behind n ih w v h tw tv a None None e g same = refl
high_behind n ih w v h tw tv a None (Some y) e g same = absurd (cc)
high_behind n ih w v h tw tv a (Some x) None e g same = absurd (cc)
high_behind n ih w v h tw tv a (Some x) (Some y) e g same = ih x y (follow w v h tw tv a x y e g) (stays_tidy w a x tw e) (stays_tidy v a y tv g)

high_step : (n : ℕ) → AllAsHigh n → (w v : World) → Alike w v → Tidy w → Tidy v → (a : Step) → height_of (height n) (next w a) ≡ height_of (height n) (next v a)
high_step n ih w v h tw tv a = high_behind n ih w v h tw tv a (next w a) (next v a) refl refl (enabled_alike w v h tw tv a)

high_branches : (n : ℕ) → AllAsHigh n → (w v : World) → Alike w v → Tidy w → Tidy v → (candidates : List Step) → highest (height n) w candidates ≡ highest (height n) v candidates
high_branches n ih w v h tw tv [] = refl
high_branches n ih w v h tw tv (a ∷ more) = λ j. max (high_step n ih w v h tw tv a j) (high_branches n ih w v h tw tv more j)

high_decision : (n : ℕ) → AllAsHigh n → (w v : World) → Alike w v → Tidy w → Tidy v → (d : Decision) → height_by (height n) w d ≡ height_by (height n) v d
high_decision n ih w v h tw tv (Forced a) = ap (λ (k : ℕ). 1 + k) (high_step n ih w v h tw tv a)
high_decision n ih w v h tw tv (Choice candidates) = ap (λ (k : ℕ). 1 + k) (high_branches n ih w v h tw tv candidates)
high_decision n ih w v h tw tv (Leaf o) = refl

pub as_high : (n : ℕ) → AllAsHigh n
unfolding height
as_high zero w v h tw tv = ap height_stopped (wide_decision_alike w v h tw tv)
as_high (suc n) w v h tw tv = high_decision n (as_high n) w v h tw tv (wide_decision w) ∙ ap (height_by (height n) v) (wide_decision_alike w v h tw tv)
