-- Where a debugger stands that walks.
use Rattle.std.specs.Prelude.{◌≡◌, ℕ, ◌+◌, ◌<◌, List, ◌++◌, length, Option, Some, None}
use Rattle.mpd_model.specs.declared.step.Step.{Step}
use Rattle.mpd_model.specs.declared.decision.Decision.{Decision}
use Rattle.mpd_model.specs.declared.decision.Decision.TheVariants.{Choice, Leaf}
use Rattle.mpd_model.specs.steps.World.{World}
use Rattle.mpd_model.specs.runs.Trail.{Standing, IsReached, done_steps}
use Rattle.mpd_policy.specs.declared.along.WalkEnd.{WalkEnd}
use Rattle.mpd_policy.specs.declared.along.WalkEnd.TheVariants.{Ended, Fuel, Untaken}
use Rattle.mpd_policy.specs.declared.ending.Ending.{Ending}
use Rattle.mpd_policy.specs.declared.ending.Ending.TheVariants as ending_is
use Rattle.mpd_policy.specs.Walk.{ending_by}
use Rattle.mpd_policy.specs.Walked.{Walked}

-- a debugger that stands where another stood, or has gone on from there
pub record Beyond (d e : Standing) : Type 0 where
  pub program : e.trail.program ≡ d.trail.program
  pub mode : e.trail.mode ≡ d.trail.mode
  pub reached : IsReached e
  pub path : List Step
  pub done_steps_are : done_steps e.trail ≡ done_steps d.trail ++ path

-- A debugger has gone on along a way.
pub record Gone {C : Type 0} (decide : World → Decision) (takes : C → ℕ → World → List Step → ℕ → C → Type 0) (passes : C → ℕ → World → Step → C → Type 0) (d : Standing) (c : C) (e : Standing) (f : C) : Type 0 where
  pub choices : List ℕ
  pub path : List Step
  pub done_steps_are : done_steps e.trail ≡ done_steps d.trail ++ path
  pub depth : e.trail.depth ≡ d.trail.depth + length path
  pub walked : Walked decide takes passes c d.trail.depth d.world choices path e.world f

-- none of the candidates of a choice is taken
pub record Unmade {C : Type 0} (decide : World → Decision) (leaves : C → ℕ → World → List Step → C → Type 0) (e : Standing) (c f : C) : Type 0 where
  pub candidates : List Step
  pub choice : decide e.world ≡ Choice candidates
  pub left : leaves c e.trail.depth e.world candidates f

-- why it stops: where it stands, and the chooser before and after
abbrev pub StopsBy : {C : Type 0} → (World → Decision) → (C → ℕ → World → List Step → C → Type 0) → (ℕ → Type 0) → (ℕ → Type 0) → Standing → C → WalkEnd → C → Type 0
StopsBy decide leaves spent room e c (Ended o) f = (f ≡ c) × (decide e.world ≡ Leaf o) × room e.trail.depth
StopsBy decide leaves spent room e c Fuel f = (f ≡ c) × spent e.trail.depth
StopsBy decide leaves spent room e c Untaken f = Unmade decide leaves e c f × room e.trail.depth

-- it goes on by one step, or stops
abbrev pub Goes : {C : Type 0} → (World → Decision) → (C → ℕ → World → List Step → ℕ → C → Type 0) → (C → ℕ → World → List Step → C → Type 0) → (C → ℕ → World → Step → C → Type 0) → Standing → C → Option WalkEnd → Standing → C → Type 0
Goes decide takes leaves passes d c None e f = (e.trail.depth ≡ d.trail.depth + 1) × Gone decide takes passes d c e f
Goes decide takes leaves passes d c (Some s) e f = (e ≡ d) × StopsBy decide leaves (λ n. ⊥) (λ n. Unit {0}) d c s f

-- It has gone on, and stops: at the limit, or before it.
pub record Walks {C : Type 0} (decide : World → Decision) (takes : C → ℕ → World → List Step → ℕ → C → Type 0) (leaves : C → ℕ → World → List Step → C → Type 0) (passes : C → ℕ → World → Step → C → Type 0) (limit : ℕ) (d : Standing) (c : C) (s : WalkEnd) (e : Standing) (f : C) : Type 0 where
  pub middle : C
  pub gone : Gone decide takes passes d c e middle
  pub stops : StopsBy decide leaves (λ n. n ≡ limit) (λ n. n < limit) e middle s f

-- how the run ends where it has stopped, none where that is at a choice
abbrev pub ending_after : (World → Decision) → WalkEnd → World → Option Ending
ending_after decide (Ended o) w = Some (ending_is.Ended o)
ending_after decide Fuel w = Some (ending_by (decide w))
ending_after decide Untaken w = None
