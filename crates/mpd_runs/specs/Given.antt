-- Steps that are taken one after another, and the first of them that isn't enabled.
use Rattle.std.specs.Prelude.{◌≡◌, ℕ, ◌+◌, List, take, None, IsSome}
use Rattle.mpd_model.specs.declared.step.Step.{Step}
use Rattle.mpd_model.specs.steps.World.{World}
use Rattle.mpd_model.specs.steps.Next.{fold}

-- The steps before this place, from 0, lead on, and that at it isn't enabled.
pub record StopsAt (w : World) (steps : List Step) (place : ℕ) : Type 0 where
  pub before : IsSome (fold w (take place steps))
  pub here : fold w (take (place + 1) steps) ≡ None
