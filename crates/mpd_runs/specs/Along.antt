-- How a debugger goes along some choices. What comes next in a state is told by a function.
use Rattle.std.specs.Prelude.{◌≡◌, ℕ, ◌-◌, List, [], ◌∷◌, ◌++◌, Option, Some, None, Result, Ok, Err}
use Rattle.std.specs.Option.{option_map}
use Rattle.mpd_model.specs.declared.step.Step.{Step}
use Rattle.mpd_model.specs.declared.decision.Decision.{Decision}
use Rattle.mpd_model.specs.steps.World.{World}
use Rattle.mpd_model.specs.runs.Trail.{Standing, done_steps}
use Rattle.mpd_policy.specs.Walk.{Run, run_by}
use Rattle.mpd_runs.specs.declared.fault.WordsFault.{WordsFault}
use Rattle.mpd_runs.specs.declared.fault.WordsFault.TheVariants.{BadChoices, Memory}
use Rattle.mpd_runs.specs.Place.{left_over, bad_place}

-- the steps of that run, where there is one
abbrev pub steps_at : (World → Decision) → ℕ → List ℕ → World → Option (List Step)
steps_at decide n cs w = option_map (λ (r : Run). r.steps) (run_by decide n cs w)

abbrev pub behind : List Step → Option (List Step) → Option (List Step)
behind path o = option_map (λ more. path ++ more) o

-- the steps of a run that is over, where no choice is left over
abbrev pub no_steps : List ℕ → Option (List Step)
no_steps [] = Some []
no_steps (c ∷ cs) = None

-- a run is over, at a leaf or for want of fuel
pub record IsOver (decide : World → Decision) (n k : ℕ) (cs : List ℕ) (w : World) : Type 0 where
  pub steps : steps_at decide n cs w ≡ no_steps cs
  pub bad : bad_place decide n k cs w ≡ left_over k cs

-- no run has these choices, and this is the first that is none
abbrev pub IsBad : (World → Decision) → ℕ → ℕ → List ℕ → World → ℕ → Type 0
IsBad decide n k cs w place = (steps_at decide n cs w ≡ None) × (bad_place decide n k cs w ≡ Some place)

-- where no step is left to be taken
abbrev pub Ends : ℕ → List ℕ → Result (Unit {0}) WordsFault → Type 0
Ends k left (Ok u) = left ≡ []
Ends k left (Err (BadChoices place)) = (place ≡ k) × (left_over k left ≡ Some k)
Ends k left (Err Memory) = ⊥

-- the steps of the whole run were taken, or it is none
abbrev pub GoesOn : (World → Decision) → ℕ → List ℕ → Standing → Result (Unit {0}) WordsFault → Standing → Type 0
GoesOn decide limit cs d (Ok u) e = (path : List Step) × (done_steps e.trail ≡ done_steps d.trail ++ path) × (steps_at decide (limit - d.trail.depth) cs d.world ≡ Some path)
GoesOn decide limit cs d (Err (BadChoices place)) e = IsBad decide (limit - d.trail.depth) 0 cs d.world place
GoesOn decide limit cs d (Err Memory) e = Unit {0}
