-- What is known of the step that decided how a run ends.
use Rattle.std.specs.Prelude.{◌≡◌, ℕ, Bool, true, false, if◌then◌else◌, List, Option, Some, None}
use Rattle.std.specs.List.{AllZip}
use Rattle.mpd_model.specs.declared.call.Mode.{Mode}
use Rattle.mpd_model.specs.declared.step.Step.{Step}
use Rattle.mpd_model.specs.script.Program.{Program}
use Rattle.mpd_model.specs.steps.World.{World, id_eq, start}
use Rattle.mpd_model.specs.runs.Trail.{Standing}
use Rattle.mpd_policy.specs.Wide.{wide_decision}
use Rattle.mpd_policy.specs.Walk.{run_by, steps_by}
use Rattle.mpd_explore.specs.declared.report.SearchLeaf.{SearchLeaf}
use Rattle.mpd_names.specs.declared.place.PlacedCall.{PlacedCall}
use Rattle.mpd_explain.specs.declared.steps.PlacedStep.{PlacedStep}
use Rattle.mpd_explain.specs.declared.steps.PlacedStep.TheVariants as at
use Rattle.mpd_explain.specs.Steps.{placed_step_of}
use Rattle.mpd_blame.specs.declared.back.Blame.{Blame}
use Rattle.mpd_blame.specs.declared.back.Blame.TheVariants as blame_is
use Rattle.mpd_blame.specs.declared.back.Decided.{Decided}
use Rattle.mpd_blame.specs.declared.told.Deciding.{Deciding}
use Rattle.mpd_blame.specs.declared.told.PlacedBlame.{PlacedBlame}
use Rattle.mpd_blame.specs.Blame.{ends_badly, IsBlame, IsThere}

-- the step that decided, on the state before it, and the other
abbrev pub deciding_of : Program → World → Decided → Deciding
deciding_of s w d = record { taken = placed_step_of s w d.taken; other = placed_step_of s w d.other }

abbrev pub deciding : Program → World → Blame → Option Deciding
deciding s w (blame_is.At d) = Some (deciding_of s w d)
deciding s w b = None

abbrev pub placed_blame : Program → World → Blame → PlacedBlame
placed_blame s w b = record { blame = b; deciding = deciding s w b }

-- the send of the other step, where that matches the same receive
abbrev pub other_of : PlacedStep → PlacedStep → Option PlacedCall
other_of (at.Match c d) (at.Match e f) = if id_eq d.call f.call then Some e else None
other_of a b = None

abbrev pub other_message : Deciding → Option PlacedCall
other_message d = other_of d.taken d.other

-- what is known of a run from the start of a script
pub record IsBlamed (most limit : ℕ) (s : Program) (mode : Mode) (steps : List Step) (told : PlacedBlame) : Type 0 where
  pub is : IsBlame most limit (start s mode) steps told.blame
  pub world : World
  pub there : IsThere (start s mode) steps told.blame world
  pub told_is : told ≡ placed_blame s world told.blame

-- the same of a leaf from where a debugger stands, which is the start: nothing where it doesn't end
-- badly
abbrev pub JudgedIf : ℕ → ℕ → Standing → SearchLeaf → Bool → Option PlacedBlame → Type 0
JudgedIf most limit d l false o = o ≡ None
JudgedIf most limit d l true None = ⊥
JudgedIf most limit d l true (Some told) = IsBlamed most limit d.trail.program d.trail.mode (steps_by (run_by wide_decision limit l.choices d.world)) told

abbrev pub IsJudged : ℕ → ℕ → Standing → SearchLeaf → Option PlacedBlame → Type 0
IsJudged most limit d l o = JudgedIf most limit d l (ends_badly l) o

-- those of some leaves, in their order
abbrev pub AreJudged : ℕ → ℕ → Standing → List SearchLeaf → List (Option PlacedBlame) → Type 0
AreJudged most limit d leaves blames = AllZip (IsJudged most limit d) leaves blames
