-- What is asleep where a debugger has gone along some choices, and what notes it.
use Rattle.std.specs.Prelude.{◌≡◌, ℕ, Bool, List, ◌∷◌, slice_get, Option, Some, None, if◌then◌else◌}
use Rattle.mpd_model.specs.declared.step.Step.{Step}
use Rattle.mpd_model.specs.steps.World.{World}
use Rattle.mpd_policy.specs.Choosers.{NoSuch}
use Rattle.mpd_explore.specs.Sleeping.{Rules}
use Rattle.mpd_explore.specs.declared.sleep.Sleep.{Sleep}
use Rattle.mpd_explore.specs.Along.{sleeping_on, sleeping_behind}

-- these steps; none where a step was taken that was asleep
abbrev pub asleep_there : Sleep → Option (List Step)
asleep_there s = if s.is_passed then None else Some s.steps

-- ---- a chooser that notes it, by the rules where those that were tried fall asleep or don't; where it has the choices left, and what it notes

-- the candidate that the first of the choices left names
abbrev pub takes_noted : {C : Type 0} → (Bool → Rules) → (C → Bool) → (C → List ℕ) → (C → Sleep) → C → ℕ → World → List Step → ℕ → C → Type 0
takes_noted rules sleeps left sleep c n w candidates i d =
    (left c ≡ i ∷ left d) × ((a : Step) → slice_get candidates i ≡ Some a → asleep_there (sleep d) ≡ sleeping_behind (rules (sleeps c)) w candidates i a (asleep_there (sleep c))) × (sleeps d ≡ sleeps c)

-- no choice is left, or there are fewer candidates
abbrev pub leaves_noted : {C : Type 0} → (C → List ℕ) → C → ℕ → World → List Step → C → Type 0
leaves_noted left c n w candidates d = NoSuch (left c) candidates × (d ≡ c)

-- what it notes stays asleep, or wakes
abbrev pub passes_noted : {C : Type 0} → (Bool → Rules) → (C → Bool) → (C → List ℕ) → (C → Sleep) → C → ℕ → World → Step → C → Type 0
passes_noted rules sleeps left sleep c n w a d = (left d ≡ left c) × (asleep_there (sleep d) ≡ sleeping_on (rules (sleeps c)) w a (asleep_there (sleep c))) × (sleeps d ≡ sleeps c)
