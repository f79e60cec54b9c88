-- The walk by the decisions in which steps may be asleep: only matches are, and none wakes. And
-- what holds of it.
use Rattle.std.specs.Prelude.{◌≡◌, ℕ, Bool, true, false, List, [], Some}
use Rattle.std.specs.List.{list_any, AllPairs, Contains}
use Rattle.mpd_model.specs.declared.step.Step.{Step}
use Rattle.mpd_model.specs.declared.decision.Decision.{Decision}
use Rattle.mpd_model.specs.declared.call.Mode.{Mode}
use Rattle.mpd_model.specs.script.Program.{Program}
use Rattle.mpd_model.specs.steps.World.{World, start}
use Rattle.mpd_model.specs.steps.Next.{fold}
use Rattle.mpd_model.specs.runs.Decisions.{decision}
use Rattle.mpd_policy.specs.Asleep.{same_match, nothing_wakes}
use Rattle.mpd_policy.specs.Walk.{Run, walk}
use Rattle.mpd_explore.specs.Sleeping.{branches_by, followed_by, awake_by}
use Rattle.mpd_meaning.specs.Same.{Same}
use Rattle.mpd_complete.specs.CompleteLaws.{HasNoWaitany, KeepsBuffers, IsWhole, IsComplete, IsRun}

-- ---- the walk

abbrev pub is_asleep : List Step → Step → Bool
is_asleep asleep a = list_any (same_match a) asleep

-- the runs by each of some candidates
abbrev pub awake_branches : Bool → (List Step → World → List Run) → World → List Step → ℕ → List Step → List Run
awake_branches = branches_by same_match nothing_wakes

-- the runs after a decision
abbrev pub followed_awake : Bool → (List Step → World → List Run) → List Step → World → Decision → List Run
followed_awake = followed_by same_match nothing_wakes

-- the leaves of the runs from a state with so much fuel, while these steps are asleep: with `true`
-- what was tried falls asleep, with `false` nothing does
abbrev pub awake_walk : Bool → ℕ → List Step → World → List Run
awake_walk = awake_by decision same_match nothing_wakes

abbrev pub sleeping_walk : ℕ → World → List Run
sleeping_walk fuel w = awake_walk true fuel [] w

-- ---- what holds of it

-- Where nothing falls asleep it is the walk with every order.
abbrev pub WalksWhereNothingSleeps : Type 0
WalksWhereNothingSleeps = (fuel : ℕ) (u : World) → awake_walk false fuel [] u ≡ walk fuel u

-- It is complete, as the walk with every order is.
abbrev pub SleepingWalksAreComplete : Type 0
SleepingWalksAreComplete =
    (s : Program) → HasNoWaitany s → (mode : Mode) → KeepsBuffers mode → (before : List Step) (u : World) → fold (start s mode) before ≡ Some u
    → (fuel : ℕ) → IsWhole (sleeping_walk fuel u)
    → (steps : List Step) (w : World) → fold u steps ≡ Some w → IsComplete (sleeping_walk fuel u) fuel u w steps

-- the worlds that two runs end in aren't the same up to the order of match sets
abbrev pub EndApart : World → Run → Run → Type 0
EndApart u r t = (v w : World) → fold u r.steps ≡ Some v → fold u t.steps ≡ Some w → Same v w → ⊥

-- It has no end twice. Two waitany that are answered in either order can come to one world.
abbrev pub SleepingWalksHaveNoEndTwice : Type 0
SleepingWalksHaveNoEndTwice =
    (s : Program) → HasNoWaitany s → (mode : Mode) (before : List Step) (u : World) → fold (start s mode) before ≡ Some u → (fuel : ℕ) → AllPairs (EndApart u) (sleeping_walk fuel u)

abbrev pub RunsOfSleepingWalksAreRuns : Type 0
RunsOfSleepingWalksAreRuns =
    (s : Program) (mode : Mode) (before : List Step) (u : World) → fold (start s mode) before ≡ Some u → (fuel : ℕ) (r : Run) → Contains (sleeping_walk fuel u) r → IsRun u r
