-- What holds of two states with the same future.
use Rattle.std.specs.Prelude.{◌≡◌, ◌≤◌, ℕ, List, Some}
use Rattle.mpd_model.specs.declared.step.Step.{Step}
use Rattle.mpd_model.specs.declared.call.Mode.{Mode}
use Rattle.mpd_model.specs.script.Program.{Program}
use Rattle.mpd_model.specs.steps.World.{World, start}
use Rattle.mpd_model.specs.steps.Next.{next, enabled, fold}
use Rattle.mpd_model.specs.steps.Outcomes.{ending}
use Rattle.mpd_model.specs.runs.Decisions.{decision}
use Rattle.mpd_policy.specs.Wide.{wide_decision}
use Rattle.mpd_policy.specs.Walk.{wide_walk}
use Rattle.mpd_outcomes.specs.Future.{SameFuture}
use Rattle.mpd_outcomes.specs.Height.{height}

-- of a world that a run reaches
abbrev pub IsRunTo : Program → Mode → World → Type 0
IsRunTo s mode w = (steps : List Step) × (fold (start s mode) steps ≡ Some w)

-- ---- one step

-- Worlds with the same future: the same steps are enabled, the same comes next, along the walk and along the wide one, they end alike where
-- they end, and each step leads to worlds with the same future.
pub record GoOnAlike (w v : World) : Type 0 where
  pub enabled_same : enabled w ≡ enabled v
  pub decision_same : decision w ≡ decision v
  pub wide_decision_same : wide_decision w ≡ wide_decision v
  pub ending_same : ending w ≡ ending v
  pub steps : (a : Step) (x y : World) → next w a ≡ Some x → next v a ≡ Some y → SameFuture x y

abbrev pub SameFuturesGoOnAlike : Type 0
SameFuturesGoOnAlike = (s : Program) (mode : Mode) (w v : World) → IsRunTo s mode w → IsRunTo s mode v → SameFuture w v → GoOnAlike w v

-- ---- all runs

-- They have the same wide walk, the same choices, the same steps, the same ends, in the same order; and its longest run is as long.
pub record OneWalk (fuel : ℕ) (w v : World) : Type 0 where
  pub walk_same : wide_walk fuel w ≡ wide_walk fuel v
  pub height_same : height fuel w ≡ height fuel v

abbrev pub SameFuturesHaveOneWalk : Type 0
SameFuturesHaveOneWalk = (s : Program) (mode : Mode) (w v : World) → IsRunTo s mode w → IsRunTo s mode v → SameFuture w v → (fuel : ℕ) → OneWalk fuel w v

-- Where the longest run of a wide walk has no more steps than there is fuel, the walk is the same with any fuel that is enough for it.
abbrev pub EnoughFuelIsEnough : Type 0
EnoughFuelIsEnough = (fuel more : ℕ) (w : World) → height fuel w ≤ fuel → height fuel w ≤ more → (wide_walk more w ≡ wide_walk fuel w) × (height more w ≡ height fuel w)
