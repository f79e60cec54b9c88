-- How many states a search comes to at most: a number that goes down with each of its steps.
use Rattle.std.specs.Prelude.{ℕ, zero, suc, ◌+◌, List, [], ◌∷◌, Option, Some, None}
use Rattle.mpd_model.specs.declared.step.Step.{Step}
use Rattle.mpd_model.specs.declared.decision.Decision.{Decision}
use Rattle.mpd_model.specs.declared.decision.Decision.TheVariants.{Forced, Choice, Leaf}
use Rattle.mpd_model.specs.steps.World.{World}
use Rattle.mpd_model.specs.steps.Next.{next}

abbrev pub states_of : (World → ℕ) → Option World → ℕ
states_of count None = 0
states_of count (Some w) = count w

-- by each of some candidates
abbrev pub states_by : (World → ℕ) → World → List Step → ℕ
states_by count w [] = 0
states_by count w (a ∷ more) = states_of count (next w a) + states_by count w more

abbrev pub states_after : (World → ℕ) → World → Decision → ℕ
states_after count w (Forced a) = states_of count (next w a)
states_after count w (Choice candidates) = states_by count w candidates
states_after count w (Leaf o) = 0

-- the states of all runs from one, itself with them, with so much fuel
unfoldable pub states : (World → Decision) → ℕ → World → ℕ
states decide zero w = 1
states decide (suc n) w = suc (states_after (states decide n) w (decide w))
