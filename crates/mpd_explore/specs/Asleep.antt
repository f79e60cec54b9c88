-- Candidates that are passed since they are asleep.
use Rattle.std.specs.Prelude.{◌≡◌, ◌<◌, ◌≤◌, ℕ, Bool, false, List, length, drop, get_or}
use Rattle.std.specs.List.{list_any}
use Rattle.mpd_model.specs.declared.step.Step.{Step}
use Rattle.mpd_model.specs.steps.World.{World}
use Rattle.mpd_policy.specs.Walk.{Run}
use Rattle.mpd_explore.specs.Sleeping.{branches_by, put_off}

-- The runs by the candidates from one on are those from a later one on, since those between are asleep.
pub record Passes (same : Step → Step → Bool) (sleeps : Bool) (asleep candidates : List Step) (from i : ℕ) : Type 0 where
  pub low : from ≤ i
  pub same_runs : (keeps : World → Step → List Step → List Step) (runs : List Step → World → List Run) (w : World)
      → branches_by same keeps sleeps runs w (put_off sleeps from candidates asleep) from (drop from candidates) ≡ branches_by same keeps sleeps runs w (put_off sleeps i candidates asleep) i (drop i candidates)

-- The first candidate that is awake, from one on, or the end of the list.
pub record Skips (same : Step → Step → Bool) (sleeps : Bool) (asleep candidates : List Step) (from i : ℕ) : Type 0 where
  pub passes : Passes same sleeps asleep candidates from i
  pub high : i ≤ length candidates
  pub awake : (a : Step) → i < length candidates → a ≡ get_or candidates i a → list_any (same a) (put_off sleeps i candidates asleep) ≡ false
