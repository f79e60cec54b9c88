-- What is answered to some choices. What comes next in a state is told by a function.
use Rattle.std.specs.Prelude.{◌≡◌, ℕ, List, Some, None, Result, Ok, Err}
use Rattle.mpd_model.specs.declared.step.Step.{Step}
use Rattle.mpd_model.specs.declared.decision.Decision.{Decision}
use Rattle.mpd_model.specs.steps.World.{World}
use Rattle.mpd_policy.specs.Walk.{Run, run_by}
use Rattle.mpd_runs.specs.declared.fault.WordsFault.{WordsFault}
use Rattle.mpd_runs.specs.declared.fault.WordsFault.TheVariants.{BadChoices, Memory}
use Rattle.mpd_runs.specs.Place.{bad_place}

-- These are the steps of the run that makes exactly these choices, from a state with so much fuel; or there is no such run, and this is the
-- first choice that is none.
abbrev pub Led : (World → Decision) → ℕ → List ℕ → World → Result (List Step) WordsFault → Type 0
Led decide fuel choices w (Ok steps) = (r : Run) × (run_by decide fuel choices w ≡ Some r) × (steps ≡ r.steps)
Led decide fuel choices w (Err (BadChoices place)) = (run_by decide fuel choices w ≡ None) × (bad_place decide fuel 0 choices w ≡ Some place)
Led decide fuel choices w (Err Memory) = Unit {0}

-- the law: there is a run with exactly these choices, or one of them is none
abbrev pub RunsOrIsBad : (World → Decision) → ℕ → ℕ → List ℕ → World → Type 0
RunsOrIsBad decide n k cs w = (run_by decide n cs w ≡ None → (place : ℕ) × (bad_place decide n k cs w ≡ Some place)) × ((r : Run) → run_by decide n cs w ≡ Some r → bad_place decide n k cs w ≡ None)
