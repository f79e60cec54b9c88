-- What a call of a debugger comes to that goes along its trail, by its result: where it takes a step, and where it takes steps back.
use Rattle.std.specs.Prelude.{◌≡◌, ℕ, ◌+◌, ◌-◌, ◌≤◌, [], ◌∷◌, ◌++◌, take, drop, slice_get, Some, Result, OnOk, OnErr}
use Rattle.mpd_model.specs.declared.step.Step.{Step}
use Rattle.mpd_model.specs.steps.Next.{next}
use Rattle.mpd_model.specs.runs.Trail.{Trail, IsReached, done_steps, applied, taken_back, redone, gone_back}
use Rattle.mpd_core.specs.Writes.{most_writes}
use Rattle.mpd_core.specs.CoreStepped.{Spent}
use Rattle.mpd_trail.specs.DebuggerViews.{DebuggerView, standing_of}
use Rattle.mpd_trail.specs.DebuggerWrites.{most_writes_of}

-- From `old` to `new`: to a trail of the same script, in so many writes at least, or nowhere, without a write.
pub record Moved {T E : Type 0} (trail : Trail) (least : ℕ) (old new : DebuggerView) (result : Result T E) : Type 0 where
  pub ok : OnOk result (new.trail ≡ trail)
  pub reached : IsReached (standing_of new)
  pub err : OnErr result (new.trail ≡ old.trail)
  pub err_world : OnErr result (new.world ≡ old.world)
  pub program : new.trail.program ≡ old.trail.program
  pub mode : new.trail.mode ≡ old.trail.mode
  pub rises : OnOk result (old.writes + least ≤ new.writes)
  pub unwritten : OnErr result (new.writes ≡ old.writes)

-- what holds of this step
abbrev pub OfStep : Step → (Step → Type 0) → Type 0
OfStep a P = P a

-- what holds of the step that stands next among those undone
abbrev pub OfNext : Trail → (Step → Type 0) → Type 0
OfNext t P = (step : Step) → slice_get t.steps t.depth ≡ Some step → P step

-- A step is taken: where the relation of steps goes, in as many writes as it takes at most, and in room for one step.
pub record StepTaken {T E : Type 0} (of : (Step → Type 0) → Type 0) (trail : Trail) (old new : DebuggerView) (result : Result T E) : Type 0 where
  pub moved : Moved trail 1 old new result
  pub world : OnOk result (of (λ a. next old.world a ≡ Some new.world))
  pub steps : OnOk result (of (λ a. done_steps new.trail ≡ done_steps old.trail ++ a ∷ []))
  pub few : OnOk result (of (λ a. new.writes ≤ old.writes + most_writes old.trail.program.ranks a))
  pub room : Spent old.room new.room result

-- this step, as the one at the depth
abbrev pub StepApplied : {T E : Type 0} → Step → DebuggerView → DebuggerView → Result T E → Type 0
StepApplied a old new result = StepTaken (OfStep a) (applied old.trail a) old new result

-- the step that stands next among those undone
abbrev pub NextRedone : {T E : Type 0} → DebuggerView → DebuggerView → Result T E → Type 0
NextRedone old new result = StepTaken (OfNext old.trail) (redone old.trail) old new result

-- Steps are taken back, until so many are left: in so many writes at least and at most, and in no room.
pub record StepsUndone {T E : Type 0} (depth : ℕ) (trail : Trail) (least : ℕ) (most : (ℕ → Type 0) → Type 0) (old new : DebuggerView) (result : Result T E) : Type 0 where
  pub moved : Moved trail least old new result
  pub steps : OnOk result (done_steps new.trail ≡ take depth (done_steps old.trail))
  pub few : OnOk result (most (λ n. new.writes ≤ old.writes + n))
  pub room_left : old.room ≤ new.room

-- the last one
abbrev pub LastUndone : {T E : Type 0} → DebuggerView → DebuggerView → Result T E → Type 0
LastUndone old new result =
    StepsUndone (old.trail.depth - 1) (taken_back old.trail) 1
    (λ P. (step : Step) → done_steps old.trail ≡ done_steps new.trail ++ step ∷ [] → P (most_writes old.trail.program.ranks step)) old new result

-- all those after a depth
abbrev pub UndoneTo : {T E : Type 0} → ℕ → DebuggerView → DebuggerView → Result T E → Type 0
UndoneTo depth old new result =
    StepsUndone depth (gone_back old.trail depth) (old.trail.depth - depth)
    (λ P. P (most_writes_of old.trail.program.ranks (drop depth (done_steps old.trail)))) old new result
