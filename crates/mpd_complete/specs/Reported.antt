-- What a report says of all runs, where it says that there are no more leaves, and none of its
-- leaves is cut.
use Rattle.std.specs.Prelude.{◌≡◌, ◌≤◌, ◌⊎◌, ℕ, true, false, List, [], length, map, Some}
use Rattle.std.specs.List.{list_any, Contains}
use Rattle.mpd_model.specs.declared.step.Step.{Step}
use Rattle.mpd_model.specs.declared.call.Mode.{Mode}
use Rattle.mpd_model.specs.script.Program.{Program}
use Rattle.mpd_model.specs.steps.World.{World, start}
use Rattle.mpd_model.specs.steps.Next.{fold, enabled}
use Rattle.mpd_model.specs.steps.Outcomes.{ending}
use Rattle.mpd_policy.specs.declared.ending.Ending.TheVariants.{Ended}
use Rattle.mpd_policy.specs.Walk.{wide_walk}
use Rattle.mpd_explore.specs.declared.report.SearchLeaf.{SearchLeaf}
use Rattle.mpd_explore.specs.declared.report.SearchLimits.{SearchLimits}
use Rattle.mpd_explore.specs.Sleeping.{walk_of}
use Rattle.mpd_explore.specs.Report.{shown, listed, left_out}
use Rattle.mpd_complete.specs.CompleteLaws.{HasNoWaitany, KeepsBuffers, was_cut, GoesOnToAnEnd}

-- ---- what leaves say of all runs

abbrev pub NoneIsCut : List SearchLeaf → Type 0
NoneIsCut leaves = list_any (λ x. was_cut x.ending) leaves ≡ false

-- Every run from u that can't go on has an outcome that is a leaf's.
abbrev pub HaveAllOutcomes : List SearchLeaf → World → Type 0
HaveAllOutcomes leaves u =
    (steps : List Step) (w : World) → fold u steps ≡ Some w → enabled w ≡ []
    → (x : SearchLeaf) × Contains leaves x × (x.ending ≡ Ended (ending w))

-- None has more steps than the fuel, and each can be continued until no step is enabled.
abbrev pub BoundsAllRuns : ℕ → World → Type 0
BoundsAllRuns fuel u = (steps : List Step) (w : World) → fold u steps ≡ Some w → (length steps ≤ fuel) × GoesOnToAnEnd w

-- ---- a report of a walk

-- the leaves of all runs with so much fuel, each end once or in every order
abbrev pub all_leaves : SearchLimits → World → List SearchLeaf
all_leaves l u = map shown (walk_of l u)

-- those that `explore` lists
abbrev pub reported : SearchLimits → World → List SearchLeaf
reported l u = listed l (all_leaves l u)

-- The walk that is asked for leaves out no end: where each end is asked for once it is a wide walk,
-- whatever the script and the mode; where every order is, it is one where the script has no
-- waitany, and buffers never run out.
abbrev pub HasAllEnds : Program → Mode → SearchLimits → Type 0
HasAllEnds s mode l = (l.ends ≡ true) ⊎ (HasNoWaitany s × KeepsBuffers mode)

abbrev pub ReportsHaveAllOutcomes : Type 0
ReportsHaveAllOutcomes =
    (s : Program) (mode : Mode) (l : SearchLimits) → HasAllEnds s mode l → (before : List Step) (u : World) → fold (start s mode) before ≡ Some u
    → left_out l (all_leaves l u) ≡ false → NoneIsCut (reported l u) → HaveAllOutcomes (reported l u) u

abbrev pub ReportsBoundAllRuns : Type 0
ReportsBoundAllRuns =
    (s : Program) (mode : Mode) (l : SearchLimits) → HasAllEnds s mode l → (before : List Step) (u : World) → fold (start s mode) before ≡ Some u
    → left_out l (all_leaves l u) ≡ false → NoneIsCut (reported l u) → BoundsAllRuns l.fuel u

-- ---- a report of runs that were drawn

-- Where it says that there are no more, its leaves are those of the wide walk.
abbrev pub SamplesHaveAllOutcomes : Type 0
SamplesHaveAllOutcomes =
    (s : Program) (mode : Mode) (before : List Step) (u : World) → fold (start s mode) before ≡ Some u
    → (fuel : ℕ) (leaves : List SearchLeaf) → leaves ≡ map shown (wide_walk fuel u) → NoneIsCut leaves → HaveAllOutcomes leaves u

abbrev pub SamplesBoundAllRuns : Type 0
SamplesBoundAllRuns =
    (s : Program) (mode : Mode) (before : List Step) (u : World) → fold (start s mode) before ≡ Some u
    → (fuel : ℕ) (leaves : List SearchLeaf) → leaves ≡ map shown (wide_walk fuel u) → NoneIsCut leaves → BoundsAllRuns fuel u
