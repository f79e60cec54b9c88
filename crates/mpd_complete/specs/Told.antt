-- What commands say of all runs of a script, in the words of what they answer: `check`, a sample,
-- and the console's search.
use Rattle.std.specs.Prelude.{◌≡◌, ◌-◌, ◌<◌, ◌≤◌, ◌⊎◌, ℕ, Bool, true, List, [], length, take, Option, Some}
use Rattle.mpd_model.specs.declared.call.Mode.{Mode}
use Rattle.mpd_model.specs.script.Program.{Program}
use Rattle.mpd_model.specs.steps.World.{World, start}
use Rattle.mpd_model.specs.runs.Trail.{Standing, IsReached, first_standing}
use Rattle.mpd_model.specs.declared.step.Step.{Step}
use Rattle.mpd_model.specs.steps.Next.{fold, enabled}
use Rattle.mpd_model.specs.steps.Outcomes.{ending}
use Rattle.mpd_policy.specs.declared.ending.Ending.TheVariants.{Ended}
use Rattle.mpd_lines.specs.declared.verdict.Verdict.TheVariants.{Good}
use Rattle.mpd_runs.specs.declared.way.Way.{Way}
use Rattle.mpd_runs.specs.declared.way.Way.TheVariants.{Deadlock, Trap}
use Rattle.mpd_runs.specs.Ways.{way_of}
use Rattle.mpd_outcomes.specs.declared.report.StateLimits.{StateLimits}
use Rattle.mpd_diagnose.specs.declared.diagnosis.Diagnosis.{Diagnosis}
use Rattle.mpd_diagnose.specs.Diagnosed.{IsDiagnosis}
use Rattle.mpd_diagnose.specs.Verdicts.{always_fails, always_hangs, always_traps, drawn_counts, verdict_of}
use Rattle.mpd_blame.specs.declared.back.Decided.{Decided}
use Rattle.mpd_blame.specs.declared.back.Blame.TheVariants.{At, FromStart}
use Rattle.mpd_blame.specs.Blame.{IsBlame}
use Rattle.mpd_explore.specs.declared.report.SearchLimits.{SearchLimits}
use Rattle.mpd_pool.specs.declared.pool.SearchPlan.{SearchPlan}
use Rattle.mpd_runs.specs.declared.search.Scope.{Scope}
use Rattle.mpd_runs.specs.Runs.{fuel_at, sees_all}
use Rattle.mpd_runs.specs.Seek.{runs_in, counts_in}
use Rattle.mpd_outcomes.specs.declared.report.Outcomes.{Outcomes}
use Rattle.mpd_outcomes.specs.Outcomes.{TellsRuns}
use Rattle.mpd_check.specs.Tally.{tally_of, TellsAll}
use Rattle.mpd_check.specs.Checked.{leaves_of, more_of}
use Rattle.mpd_check.specs.Listing.{sample_leaves, sample_more}
use Rattle.mpd_complete.specs.Reported.{HaveAllOutcomes, BoundsAllRuns}

-- The leaves that `check` writes, by whatever pieces, each end once or in every order: where what
-- it answers tells all, each run from the script's start has at most as many steps as the fuel, can
-- be continued until no step is enabled, and ends as a leaf does.
abbrev pub ChecksTellAllEnds : Type 0
ChecksTellAllEnds =
    (s : Program) (mode : Mode) (plan : SearchPlan) → TellsAll plan.limits.ends s mode (tally_of (leaves_of s mode plan) (more_of s mode plan))
    → HaveAllOutcomes (leaves_of s mode plan) (start s mode) × BoundsAllRuns plan.limits.fuel (start s mode)

-- So it is of the leaves of a sample.
abbrev pub SamplesTellAllEnds : Type 0
SamplesTellAllEnds =
    (s : Program) (mode : Mode) (seed : ℕ) (l : SearchLimits) → TellsAll true s mode (tally_of (sample_leaves s mode seed l) (sample_more s mode seed l))
    → HaveAllOutcomes (sample_leaves s mode seed l) (start s mode) × BoundsAllRuns l.fuel (start s mode)

-- So it is of the first runs that are told with the outcomes of a script, though other runs are not
-- told.
abbrev pub OutcomesTellAllEnds : Type 0
OutcomesTellAllEnds =
    (s : Program) (mode : Mode) (fuel : ℕ) (o : Outcomes) → TellsRuns fuel (start s mode) o → TellsAll true s mode (tally_of o.firsts.leaves.items o.firsts.more)
    → HaveAllOutcomes o.firsts.leaves.items (start s mode) × BoundsAllRuns fuel (start s mode)

-- no run from there that can't go on ends in a deadlock or with a trap
abbrev pub NoneEndsBadly : World → Type 0
NoneEndsBadly u =
    (steps : List Step) (w : World) → fold u steps ≡ Some w → enabled w ≡ []
    → (way_of (Ended (ending w)) ≡ Deadlock → ⊥) × (way_of (Ended (ending w)) ≡ Trap → ⊥)

-- Where the verdict on a diagnosis is good, that holds of all runs of the script.
abbrev pub GoodDiagnosesAreOfAllRuns : Type 0
GoodDiagnosesAreOfAllRuns =
    (limits : StateLimits) (most runs : ℕ) (s : Program) (mode : Mode) (told : Diagnosis) (strict : Bool) → IsDiagnosis limits most runs (first_standing s mode) told
    → verdict_of strict told.found.counts (drawn_counts told.drawn) ≡ Good → NoneEndsBadly (start s mode) × BoundsAllRuns limits.fuel (start s mode)

-- every run from there that can't go on ends in this way
abbrev pub AllEndIn : Way → World → Type 0
AllEndIn x u = (steps : List Step) (w : World) → fold u steps ≡ Some w → enabled w ≡ [] → way_of (Ended (ending w)) ≡ x

-- in a deadlock or with a trap
abbrev pub AllEndBadly : World → Type 0
AllEndBadly u =
    (steps : List Step) (w : World) → fold u steps ≡ Some w → enabled w ≡ []
    → (way_of (Ended (ending w)) ≡ Deadlock) ⊎ (way_of (Ended (ending w)) ≡ Trap)

-- Where the numbers of a diagnosis say that every run hangs or traps, it does, and where they say
-- which of both.
abbrev pub FailingDiagnosesAreOfAllRuns : Type 0
FailingDiagnosesAreOfAllRuns =
    (limits : StateLimits) (most runs : ℕ) (s : Program) (mode : Mode) (told : Diagnosis)
    → IsDiagnosis limits most runs (first_standing s mode) told → always_fails told.found.counts ≡ true
    → AllEndBadly (start s mode) × BoundsAllRuns limits.fuel (start s mode)
    × (always_hangs told.found.counts ≡ true → AllEndIn Deadlock (start s mode)) × (always_traps told.found.counts ≡ true → AllEndIn Trap (start s mode))

-- After the step that decided how a run ends, each run ends badly, and so it does from the start
-- where no step decided it.
abbrev pub BlamesAreOfAllRuns : Type 0
BlamesAreOfAllRuns =
    (s : Program) (mode : Mode) (most limit : ℕ) (steps : List Step)
    → ((d : Decided) → IsBlame most limit (start s mode) steps (At d)
    → (n : ℕ) (u : World) → d.depth < n → n ≤ length steps → fold (start s mode) (take n steps) ≡ Some u → AllEndBadly u × BoundsAllRuns (limit - n) u)
    × (IsBlame most limit (start s mode) steps FromStart → AllEndBadly (start s mode) × BoundsAllRuns limit (start s mode))

-- And of the runs that the console looks at from where it stands, where it says that there is no
-- deadlock or trap from there: by states, or one by one.
abbrev pub ConsolesSeeAllEnds : Type 0
ConsolesSeeAllEnds =
    (k : Scope) (d : Standing) → IsReached d → sees_all (counts_in k (fuel_at d.trail.depth) d.world) ≡ true
    → HaveAllOutcomes (runs_in k (fuel_at d.trail.depth) d.world) d.world × BoundsAllRuns (fuel_at d.trail.depth) d.world
