-- What a search has gathered, and what it lists in the end.
use Rattle.std.specs.Prelude.{◌≡◌, ◌<◌, ℕ, Bool, true, false, if◌then◌else◌, List, [], ◌++◌, map, length, take, Option, Some, None}
use Rattle.mpd_model.specs.declared.step.Step.{Step}
use Rattle.mpd_model.specs.runs.Trail.{Standing}
use Rattle.mpd_explore.specs.declared.report.SearchLeaf.{SearchLeaf}
use Rattle.mpd_explore.specs.declared.report.SearchLimits.{SearchLimits}
use Rattle.mpd_explore.specs.declared.report.Witnesses.{Witnesses}
use Rattle.mpd_policy.specs.Walk.{Run}
use Rattle.mpd_explore.specs.declared.search.Open.{Open}
use Rattle.mpd_explore.specs.Search.{Search, picked, Found}
use Rattle.mpd_explore.specs.Report.{shown, listed, left_out}
use Rattle.mpd_explore.specs.Witness.{witness_by}
use Rattle.mpd_explore.specs.WitnessTexts.{behind_number}
use Rattle.mpd_explore.specs.Asked.{are_asked, asked_text}

-- whether there are any
abbrev pub IsMore : Bool → List Run → Type 0
IsMore true runs = 0 < length runs
IsMore false runs = runs ≡ []

-- the leaf of the first run to come, which ends here, or there is none
abbrev pub FoundLeaf : Search → List Open → List Step → Standing → Option SearchLeaf → List Open → Standing → Type 0
FoundLeaf s fs asleep d None gs e = Found s fs asleep d None gs e
FoundLeaf s fs asleep d (Some l) gs e = Found s fs asleep d (Some l.ending) gs e × (l.choices ≡ picked gs)

-- the text of the witness of a run that has all steps from the start of the script: empty where it is neither a deadlock nor a trap, or
-- isn't asked for
abbrev pub run_text : Witnesses → Run → List ℕ
run_text asked r = asked_text asked r.ending (behind_number (witness_by r.steps r.ending))

-- the texts of some runs, where any are asked for
abbrev pub run_texts : Witnesses → List Run → List (List ℕ)
run_texts asked rs = if are_asked asked then map (run_text asked) rs else []

-- Of all runs some were gathered, in order: these are their leaves and their texts, and the rest is still to come.
pub record Gathered (asked : Witnesses) (all rest : List Run) (leaves : List SearchLeaf) (texts : List (List ℕ)) : Type 0 where
  pub found : List Run
  pub joined : found ++ rest ≡ all
  pub leaves_are : leaves ≡ map shown found
  pub texts_are : texts ≡ run_texts asked found

-- These are the leaves that are to be listed of all runs, with their texts, and whether there are others.
pub record Lists (l : SearchLimits) (all : List Run) (leaves : List SearchLeaf) (texts : List (List ℕ)) (more : Bool) : Type 0 where
  pub leaves_are : leaves ≡ listed l (map shown all)
  pub more_is : more ≡ left_out l (map shown all)
  pub texts_are : texts ≡ run_texts l.witnesses (take (length leaves) all)
