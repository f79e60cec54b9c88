-- The run of the first candidates (docs/PICTURES.md, "Which run"). What comes next in a state is told by a function.
use Rattle.std.specs.Prelude.{ℕ, zero, suc, List, [], ◌∷◌, Option, Some, None}
use Rattle.mpd_model.specs.declared.step.Step.{Step}
use Rattle.mpd_model.specs.declared.decision.Decision.{Decision}
use Rattle.mpd_model.specs.declared.decision.Decision.TheVariants.{Forced, Choice, Leaf}
use Rattle.mpd_model.specs.steps.World.{World}
use Rattle.mpd_model.specs.steps.Next.{next}

-- the step that comes next, or the first candidate of a choice
abbrev pub first_in : List Step → Option Step
first_in [] = None
first_in (a ∷ steps) = Some a

abbrev pub first_of : Decision → Option Step
first_of (Forced a) = Some a
first_of (Choice steps) = first_in steps
first_of (Leaf o) = None

abbrev pub behind_step : (World → List Step) → Step → Option World → List Step
behind_step more a None = []
behind_step more a (Some v) = a ∷ more v

abbrev pub from_first : (World → List Step) → World → Option Step → List Step
from_first more w None = []
from_first more w (Some a) = behind_step more a (next w a)

-- the steps of the run of the first candidates from a world on, up to its end, or so many
abbrev pub first_steps : (World → Decision) → ℕ → World → List Step
first_steps decide zero w = []
first_steps decide (suc n) w = from_first (λ v. first_steps decide n v) w (first_of (decide w))
