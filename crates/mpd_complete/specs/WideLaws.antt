-- What a quiet step does beside others, and what a wide walk that is nowhere cut says of all runs:
-- of any script, in any mode. Where a script has no waitany and buffers never run out, it is the
-- walk.
use Rattle.std.specs.Prelude.{◌≡◌, ◌≤◌, ◌⊎◌, ℕ, suc, true, false, List, [], length, Some, IsSome}
use Rattle.std.specs.List.{Contains}
use Rattle.mpd_model.specs.declared.step.Step.{Step}
use Rattle.mpd_model.specs.declared.call.Mode.{Mode}
use Rattle.mpd_model.specs.script.Program.{Program}
use Rattle.mpd_model.specs.steps.World.{World, start}
use Rattle.mpd_model.specs.steps.Next.{next, fold}
use Rattle.mpd_policy.specs.Wide.{conflict, is_quiet}
use Rattle.mpd_policy.specs.Walk.{Run, walk, wide_walk}
use Rattle.mpd_explore.specs.Sleeping.{sleeping_wide_walk}
use Rattle.mpd_meaning.specs.Same.{Same}
use Rattle.mpd_complete.specs.CompleteLaws.{HasNoWaitany, KeepsBuffers, IsWhole, IsComplete, IsRun}
use Rattle.mpd_complete.specs.Sleeping.{sleeping_walk}
use Rattle.mpd_complete.specs.WideWalks.{awake_wide_walk}

-- ---- a quiet step

-- It conflicts with no other step that is enabled, and after that step it is enabled and quiet as
-- before.
pub record StaysQuiet (w v : World) (a b : Step) : Type 0 where
  pub apart : conflict w a b ≡ false
  pub on : IsSome (next v a)
  pub quiet : is_quiet v a ≡ true

-- in a world that a run reaches, another step b is enabled as well
abbrev pub QuietStepsStay : Type 0
QuietStepsStay =
    (s : Program) (mode : Mode) (before : List Step) (w : World) → fold (start s mode) before ≡ Some w
    → (a b : Step) (u v : World) → next w a ≡ Some u → is_quiet w a ≡ true → next w b ≡ Some v → (a ≡ b) ⊎ StaysQuiet w v a b

-- Steps lead to v, and a can be taken in their place and leads to u: the others of them lead from u
-- to v as well, or all of them lead from u to where a leads from v.
pub record ComesFirst (a : Step) (steps : List Step) (u v : World) : Type 0 where
  pub rest : List Step
  pub end : World
  pub leads : fold u rest ≡ Some end
  pub either : ((length steps ≡ suc (length rest)) × Same v end) ⊎ ((length steps ≡ length rest) × (z : World) × (next v a ≡ Some z) × Same z end)

-- A quiet step can be brought to the front of any steps.
abbrev pub QuietStepsComeFirst : Type 0
QuietStepsComeFirst =
    (s : Program) (mode : Mode) (before : List Step) (w : World) → fold (start s mode) before ≡ Some w
    → (a : Step) (u : World) → next w a ≡ Some u → is_quiet w a ≡ true → (steps : List Step) (v : World) → fold w steps ≡ Some v → ComesFirst a steps u v

-- ---- a wide walk that is nowhere cut

-- from a world u that a run reaches
abbrev pub WideWalksAreComplete : Type 0
WideWalksAreComplete =
    (s : Program) (mode : Mode) (before : List Step) (u : World) → fold (start s mode) before ≡ Some u
    → (fuel : ℕ) → IsWhole (wide_walk fuel u)
    → (steps : List Step) (w : World) → fold u steps ≡ Some w → IsComplete (wide_walk fuel u) fuel u w steps

-- So is the one that sleeps.
abbrev pub SleepingWideWalksAreComplete : Type 0
SleepingWideWalksAreComplete =
    (s : Program) (mode : Mode) (before : List Step) (u : World) → fold (start s mode) before ≡ Some u
    → (fuel : ℕ) → IsWhole (sleeping_wide_walk fuel u)
    → (steps : List Step) (w : World) → fold u steps ≡ Some w → IsComplete (sleeping_wide_walk fuel u) fuel u w steps

-- Where nothing falls asleep it is the wide walk.
abbrev pub WideWalksWhereNothingSleeps : Type 0
WideWalksWhereNothingSleeps = (fuel : ℕ) (u : World) → awake_wide_walk false fuel [] u ≡ wide_walk fuel u

-- From any world it is the same with more fuel.
abbrev pub WholeWideWalksNeedNoMoreFuel : Type 0
WholeWideWalksNeedNoMoreFuel = (fuel more : ℕ) → fuel ≤ more → (u : World) → IsWhole (wide_walk fuel u) → wide_walk more u ≡ wide_walk fuel u

-- ---- the other way round

abbrev pub RunsOfWideWalksAreRuns : Type 0
RunsOfWideWalksAreRuns =
    (s : Program) (mode : Mode) (before : List Step) (u : World) → fold (start s mode) before ≡ Some u → (fuel : ℕ) (r : Run) → Contains (wide_walk fuel u) r → IsRun u r

abbrev pub RunsOfSleepingWideWalksAreRuns : Type 0
RunsOfSleepingWideWalksAreRuns =
    (s : Program) (mode : Mode) (before : List Step) (u : World) → fold (start s mode) before ≡ Some u → (fuel : ℕ) (r : Run) → Contains (sleeping_wide_walk fuel u) r → IsRun u r

-- ---- a script without a waitany, in a mode whose buffers never run out

-- The very same runs, in the same order.
abbrev pub WideWalksAreWalks : Type 0
WideWalksAreWalks =
    (s : Program) → HasNoWaitany s → (mode : Mode) → KeepsBuffers mode → (before : List Step) (u : World) → fold (start s mode) before ≡ Some u → (fuel : ℕ) → wide_walk fuel u ≡ walk fuel u

-- So it is where what was tried falls asleep: a match that conflicts with one that was taken is
-- never enabled again, so it need not wake.
abbrev pub SleepingWideWalksAreSleepingWalks : Type 0
SleepingWideWalksAreSleepingWalks =
    (s : Program) → HasNoWaitany s → (mode : Mode) → KeepsBuffers mode → (before : List Step) (u : World) → fold (start s mode) before ≡ Some u
    → (fuel : ℕ) → sleeping_wide_walk fuel u ≡ sleeping_walk fuel u
