-- The diagnosis of a script.
use Rattle.std.specs.Prelude.{◌≡◌, ℕ, Bool, true, false, List, length, map, slice_get, Option, Some, None}
use Rattle.std.specs.List.{AllZip}
use Rattle.mpd_model.specs.runs.Trail.{Standing}
use Rattle.mpd_model.specs.steps.World.{World}
use Rattle.mpd_explore.specs.declared.report.SearchLeaf.{SearchLeaf}
use Rattle.mpd_explore.specs.Report.{shown}
use Rattle.mpd_runs.specs.Drawn.{draws as drawn_from, sampled, seeded}
use Rattle.mpd_outcomes.specs.declared.report.Count.{Count}
use Rattle.mpd_outcomes.specs.declared.report.Count.TheVariants.{Exactly}
use Rattle.mpd_outcomes.specs.declared.report.Outcomes.{Outcomes}
use Rattle.mpd_outcomes.specs.declared.report.StateLimits.{StateLimits}
use Rattle.mpd_outcomes.specs.Goals.{AreTold}
use Rattle.mpd_runs.specs.Counts.{told_counts}
use Rattle.mpd_blame.specs.declared.told.PlacedBlame.{PlacedBlame}
use Rattle.mpd_blame.specs.Told.{IsJudged}
use Rattle.mpd_diagnose.specs.declared.groups.Group.{Group}
use Rattle.mpd_diagnose.specs.declared.diagnosis.Runs.{Runs}
use Rattle.mpd_diagnose.specs.declared.diagnosis.Diagnosis.{Diagnosis}
use Rattle.mpd_diagnose.specs.Causes.{leaf_end}
use Rattle.mpd_diagnose.specs.Groups.{groups_of}
use Rattle.mpd_diagnose.specs.Verdicts.{draws}

-- how a search for the step that decides is limited
abbrev pub blaming : StateLimits → ℕ → StateLimits
blaming limits most = record { fuel = limits.fuel; kept = limits.kept; visited = most; witnesses = limits.witnesses; until = limits.until }

-- where it was decided how the run of a leaf ends; nothing where there is no leaf
abbrev pub BlamedAt : StateLimits → Standing → Option SearchLeaf → Option PlacedBlame → Type 0
BlamedAt limits d None o = o ≡ None
BlamedAt limits d (Some l) o = IsJudged limits.visited limits.fuel d l o

-- the same of the leaves that are shown of some groups
abbrev pub AreBlamed : StateLimits → Standing → List SearchLeaf → List Group → List (Option PlacedBlame) → Type 0
AreBlamed limits d leaves gs blames = AllZip (λ g o. BlamedAt limits d (slice_get leaves g.shown) o) gs blames

-- What is known of runs from where a debugger stands, by the ways in which they end.
pub record AreRuns (limits : StateLimits) (most : ℕ) (d : Standing) (r : Runs) : Type 0 where
  pub counts_are : r.counts ≡ told_counts r.outcomes
  pub ends_are : r.ends.items ≡ map (leaf_end d.trail.program limits.fuel d.world) r.outcomes.firsts.leaves.items
  pub groups_are : r.groups.items ≡ groups_of r.ends.items r.outcomes.counts.items
  pub blames_are : AreBlamed (blaming limits most) d r.outcomes.firsts.leaves.items r.groups.items r.blames.items

-- ---- runs that are drawn

-- each run that ends so is one
abbrev pub one : SearchLeaf → Count
one l = Exactly 1

-- So many runs are drawn, and each different one is told once: no other was drawn.
pub record AreDrawn (fuel runs : ℕ) (w : World) (o : Outcomes) : Type 0 where
  pub leaves_are : o.firsts.leaves.items ≡ map shown (sampled (drawn_from false fuel runs w (seeded 0)) fuel w)
  pub counts_are : o.counts.items ≡ map one o.firsts.leaves.items
  pub total_is : o.total ≡ Exactly (length o.firsts.leaves.items)
  pub all_are : o.firsts.more ≡ false

-- they are drawn or not
abbrev pub DrawnIf : Bool → StateLimits → ℕ → ℕ → Standing → Option Runs → Type 0
DrawnIf false limits most runs d o = o ≡ None
DrawnIf true limits most runs d None = ⊥
DrawnIf true limits most runs d (Some r) = AreDrawn limits.fuel runs d.world r.outcomes × AreRuns limits most d r

-- ---- the whole

-- What is known of the runs from where a debugger stands that the limits let be come to; and of
-- others, so many of which are drawn.
pub record IsDiagnosis (limits : StateLimits) (most runs : ℕ) (d : Standing) (x : Diagnosis) : Type 0 where
  pub told : AreTold limits d.world x.found.outcomes
  pub found : AreRuns limits most d x.found
  pub drawn : DrawnIf (draws x.found.counts) limits most runs d x.drawn
