-- What is shown of the leaves of a report, and how their runs ended, where that is asked for.
use Rattle.std.specs.Prelude.{◌≡◌, ℕ, Bool, true, false, List, [], map, string_bytes}
use Rattle.mpd_model.specs.declared.decision.Decision.{Decision}
use Rattle.mpd_model.specs.steps.World.{World}
use Rattle.mpd_model.specs.runs.Trail.{Standing, done_steps}
use Rattle.mpd_explore.specs.declared.report.SearchLeaf.{SearchLeaf}
use Rattle.mpd_explore.specs.declared.report.SearchLimits.{SearchLimits}
use Rattle.mpd_explore.specs.declared.report.SearchReport.{SearchReport}
use Rattle.mpd_explore.specs.WitnessTexts.{witness_texts}
use Rattle.mpd_explain.specs.declared.ends.End.{End}
use Rattle.mpd_explain.specs.Explanations.{ends_of_leaves}
use Rattle.mpd_check.specs.declared.groups.Group.{Group}
use Rattle.mpd_check.specs.Grouped.{shown_of, groups_of}

-- What is shown of leaves that were listed where a debugger stands, and of others, if there are more.
pub record IsShown (decide : World → Decision) (group : Bool) (l : SearchLimits) (d : Standing) (leaves : List SearchLeaf) (more : Bool) (r : SearchReport) (groups : List Group) : Type 0 where
  pub leaves_are : r.leaves.items ≡ shown_of group leaves
  pub more_is : r.more ≡ more
  pub witnesses : map string_bytes r.witnesses.items ≡ witness_texts decide l.witnesses (done_steps d.trail) l.fuel d.world (shown_of group leaves)
  pub groups_are : groups ≡ groups_of group leaves

-- the same of leaves that are grouped
abbrev pub AreFirsts : (World → Decision) → SearchLimits → Standing → List SearchLeaf → Bool → SearchReport → List Group → Type 0
AreFirsts decide l d leaves more r groups = IsShown decide true l d leaves more r groups

-- the ends of leaves, where they are asked for
abbrev pub ends_if : (World → Decision) → Bool → ℕ → Standing → List SearchLeaf → List End
ends_if decide false fuel d leaves = []
ends_if decide true fuel d leaves = ends_of_leaves decide d.trail.program d.trail.mode (done_steps d.trail) fuel d.world leaves
