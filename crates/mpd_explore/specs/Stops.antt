-- Where the steps of a witness stop.
use Rattle.std.specs.Prelude.{◌≡◌, ◌<◌, ℕ, suc, List, take, slice_get, Option, None, Some, IsSome}
use Rattle.mpd_model.specs.declared.step.Step.{Step}
use Rattle.mpd_model.specs.steps.World.{World}
use Rattle.mpd_model.specs.steps.Next.{next, fold}
use Rattle.mpd_model.specs.steps.Outcomes.{outcome}
use Rattle.mpd_core.specs.Listed.{listed}
use Rattle.mpd_explore.specs.declared.verifier.WitnessFault.{WitnessFault}
use Rattle.mpd_explore.specs.declared.verifier.WitnessFault.TheVariants.{NoSuchStep, NotStuck, WrongBlocked, Memory}

-- The first step that is not enabled, with its place: those before it can be taken, and with it they can't.
pub record StopsAt (w : World) (steps : List Step) (e : WitnessFault) : Type 0 where
  pub place : ℕ
  pub is : e ≡ NoSuchStep place
  pub before : IsSome (fold w (take place steps))
  pub refused : fold w (take (suc place) steps) ≡ None

-- Where a core is left that has taken steps, by what is wrong with them: after those before the one that isn't enabled, else after all.
-- Where memory was refused, `WantsMemory` tells it.
abbrev pub IsLeft : World → List Step → World → WitnessFault → Type 0
IsLeft w steps v (NoSuchStep place) = fold w (take place steps) ≡ Some v
IsLeft w steps v NotStuck = fold w steps ≡ Some v
IsLeft w steps v WrongBlocked = fold w steps ≡ Some v
IsLeft w steps v Memory = Unit {0}

-- what wants memory in a world: the step that is next, where it is enabled, or after the last one what lists how the run has ended
abbrev pub WantsNext : World → Option Step → Type 0
WantsNext v (Some a) = IsSome (next v a)
WantsNext v None = 0 < listed (outcome v)

-- Where memory may be refused: so many steps were taken, which lead here, and what is next wants memory.
pub record WantsMemory (w : World) (steps : List Step) (v : World) : Type 0 where
  pub place : ℕ
  pub before : fold w (take place steps) ≡ Some v
  pub wants : WantsNext v (slice_get steps place)
