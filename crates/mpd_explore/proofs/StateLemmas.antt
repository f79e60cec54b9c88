-- How many states are to come.
use Rattle.std.proofs.Common.{◌≡◌, ℕ, zero, suc, ◌<◌, ◌≤◌, ◌+◌, List, [], ◌∷◌, drop, Some, ap, ◌∙◌, arith}
use Rattle.mpd_model.specs.declared.step.Step.{Step}
use Rattle.mpd_model.specs.declared.decision.Decision.{Decision}
use Rattle.mpd_model.specs.steps.World.{World}
use Rattle.mpd_model.specs.steps.Next.{next}
use Rattle.mpd_explore.specs.States.{states_of, states_by, states_after, states}

pub states_is : (decide : World → Decision) (n : ℕ) (w : World) (d : Decision) → decide w ≡ d → states decide (suc n) w ≡ suc (states_after (states decide n) w d)
unfolding states
states_is decide n w d e = ap (λ c. suc (states_after (states decide n) w c)) e

pub some_states : (decide : World → Decision) (n : ℕ) (w : World) → 0 < states decide n w
unfolding states
some_states decide zero w = omega arith
some_states decide (suc n) w = omega arith

fewer : (count : World → ℕ) (w : World) (j : ℕ) (steps : List Step) → states_by count w (drop j steps) ≤ states_by count w steps
fewer count w zero steps = omega arith
fewer count w (suc j) [] = omega arith
fewer count w (suc j) (a ∷ more) = omega (arith, fewer count w j more)

-- from a later candidate on there are no more than from an earlier one on
pub states_fewer : (count : World → ℕ) (w : World) (i j : ℕ) (steps : List Step) → i ≤ j → states_by count w (drop j steps) ≤ states_by count w (drop i steps)
states_fewer count w zero j steps h = fewer count w j steps
states_fewer count w (suc i) zero steps h = absurd (omega (arith, h))
states_fewer count w (suc i) (suc j) [] h = omega arith
states_fewer count w (suc i) (suc j) (a ∷ more) h = states_fewer count w i j more (omega (arith, h))

pub states_split : (count : World → ℕ) (w v : World) (a : Step) (steps more : List Step) → steps ≡ a ∷ more → next w a ≡ Some v → states_by count w steps ≡ count v + states_by count w more
states_split count w v a steps more split step = ap (states_by count w) split ∙ ap (λ o. states_of count o + states_by count w more) step
