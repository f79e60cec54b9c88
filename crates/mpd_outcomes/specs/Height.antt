-- How many steps the runs of the wide walk from a state have at most; one more than the fuel where one is cut.
use Rattle.std.specs.Prelude.{ℕ, zero, suc, ◌+◌, max, List, [], ◌∷◌, Option, Some, None}
use Rattle.mpd_model.specs.declared.step.Step.{Step}
use Rattle.mpd_model.specs.declared.decision.Decision.{Decision}
use Rattle.mpd_model.specs.declared.decision.Decision.TheVariants.{Forced, Choice, Leaf}
use Rattle.mpd_model.specs.steps.World.{World}
use Rattle.mpd_model.specs.steps.Next.{next}
use Rattle.mpd_policy.specs.Wide.{wide_decision}

abbrev pub height_of : (World → ℕ) → Option World → ℕ
height_of height None = 0
height_of height (Some w) = height w

abbrev pub highest : (World → ℕ) → World → List Step → ℕ
highest height w [] = 0
highest height w (a ∷ more) = max (height_of height (next w a)) (highest height w more)

abbrev pub height_by : (World → ℕ) → World → Decision → ℕ
height_by height w (Forced a) = 1 + height_of height (next w a)
height_by height w (Choice candidates) = 1 + highest height w candidates
height_by height w (Leaf o) = 0

abbrev pub height_stopped : Decision → ℕ
height_stopped (Forced a) = 1
height_stopped (Choice candidates) = 1
height_stopped (Leaf o) = 0

unfoldable pub height : ℕ → World → ℕ
height zero w = height_stopped (wide_decision w)
height (suc n) w = height_by (height n) w (wide_decision w)
