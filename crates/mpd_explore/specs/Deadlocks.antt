-- Reports that have the witness of each deadlock.
use Rattle.std.specs.Prelude.{ℕ, suc, Bool, true, false, if◌then◌else◌, List, [], ◌∷◌, ◌++◌, length, map, Option, Some, None, codes}
use Rattle.std.specs.Fmt.{decimal}
use Rattle.mpd_model.specs.declared.call.Mode.{Mode}
use Rattle.mpd_model.specs.declared.step.Step.{Step}
use Rattle.mpd_model.specs.declared.step.CallId.{CallId}
use Rattle.mpd_model.specs.declared.outcome.Outcome.TheVariants as outcome_is
use Rattle.mpd_model.specs.script.Program.{Program}
use Rattle.mpd_model.specs.steps.World.{World}
use Rattle.mpd_model.specs.steps.Outcomes.{ids_of}
use Rattle.mpd_model.specs.runs.Decisions.{decision}
use Rattle.mpd_model.specs.texts.Texts.{line, steps_text}
use Rattle.mpd_policy.specs.declared.ending.Ending.{Ending}
use Rattle.mpd_policy.specs.declared.ending.Ending.TheVariants.{Ended, Cut}
use Rattle.mpd_policy.specs.Walk.{run_by, steps_by}
use Rattle.mpd_explore.specs.declared.report.SearchLeaf.{SearchLeaf}
use Rattle.mpd_explore.specs.declared.report.SearchLimits.{SearchLimits}
use Rattle.mpd_explore.specs.declared.report.Witness.{Witness}
use Rattle.mpd_explore.specs.declared.report.Witnesses.TheVariants.{OfNone}
use Rattle.mpd_explore.specs.declared.deadlocks.Limits.{Limits}
use Rattle.mpd_explore.specs.declared.deadlocks.Leaf as leaf
use Rattle.mpd_explore.specs.Witness.{IsWitness}
use Rattle.mpd_explore.specs.ReportText.{leaf_line}
use Rattle.mpd_explore.specs.Printed.{count_line}

-- ---- the search

-- along the walk, up to as many leaves, and without texts
abbrev pub search_of : Limits → SearchLimits
search_of l = record { runs = l.runs; fuel = l.fuel; witnesses = OfNone; until_bad = false; ends = false }

-- ---- leaves

-- the calls that are blocked in a run that ends so, where that is a deadlock
abbrev pub blocked_by : Ending → Option (List CallId)
blocked_by Cut = None
blocked_by (Ended outcome_is.Done) = None
blocked_by (Ended (outcome_is.Leftovers calls)) = None
blocked_by (Ended (outcome_is.Deadlock calls)) = Some (ids_of calls)
blocked_by (Ended (outcome_is.Trap ranks)) = None

abbrev pub deadlock_to : List Step → Option (List CallId) → Option Witness
deadlock_to steps None = None
deadlock_to steps (Some blocked) = Some (record { steps = steps; blocked = blocked })

-- the witness of a run from the start with these steps that ends so, where that is a deadlock
abbrev pub deadlock_by : List Step → Ending → Option Witness
deadlock_by steps e = deadlock_to steps (blocked_by e)

-- a leaf of a search from a state with so much fuel, which some steps lead to from the start: where it is a deadlock, with these steps and then
-- those of its run, and the calls that are blocked
abbrev pub leaf_told : List Step → ℕ → World → SearchLeaf → leaf.Leaf
leaf_told before n w l = record { choices = l.choices; outcome = l.ending; witness = deadlock_by (before ++ steps_by (run_by decision n l.choices w)) l.ending }

abbrev pub leaves_told : List Step → ℕ → World → List SearchLeaf → List leaf.Leaf
leaves_told before n w leaves = map (leaf_told before n w) leaves

-- ---- each deadlock has a witness of it, and no other leaf has one

abbrev pub HasOf : Program → Mode → Ending → Option Witness → Type 0
HasOf s mode (Ended (outcome_is.Deadlock calls)) None = ⊥
HasOf s mode (Ended (outcome_is.Deadlock calls)) (Some x) = IsWitness s mode x
HasOf s mode (Ended outcome_is.Done) None = Unit {0}
HasOf s mode (Ended outcome_is.Done) (Some x) = ⊥
HasOf s mode (Ended (outcome_is.Leftovers calls)) None = Unit {0}
HasOf s mode (Ended (outcome_is.Leftovers calls)) (Some x) = ⊥
HasOf s mode (Ended (outcome_is.Trap ranks)) None = Unit {0}
HasOf s mode (Ended (outcome_is.Trap ranks)) (Some x) = ⊥
HasOf s mode Cut None = Unit {0}
HasOf s mode Cut (Some x) = ⊥

abbrev pub HasOwnWitness : Program → Mode → leaf.Leaf → Type 0
HasOwnWitness s mode l = HasOf s mode l.outcome l.witness

-- ---- the text

-- a leaf without its witness
abbrev pub bare : leaf.Leaf → SearchLeaf
bare l = record { choices = l.choices; ending = l.outcome }

-- `witness 1: local 0, local 1`
abbrev pub witness_of_leaf : ℕ → Option Witness → List ℕ
witness_of_leaf n None = []
witness_of_leaf n (Some x) = line (codes "witness " ++ decimal n ++ 58 ∷ steps_text x.steps)

-- leaves, of which the first is number n, each with its witness where these are wanted
abbrev pub leaf_lines : Bool → ℕ → List leaf.Leaf → List ℕ
leaf_lines wanted n [] = []
leaf_lines wanted n (l ∷ ls) = leaf_line n (bare l) ++ (if wanted then witness_of_leaf n l.witness else []) ++ leaf_lines wanted (suc n) ls

abbrev pub witnessed_text : Bool → List leaf.Leaf → Bool → List ℕ
witnessed_text wanted leaves more = leaf_lines wanted 0 leaves ++ count_line (length leaves) more
