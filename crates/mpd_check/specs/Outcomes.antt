-- The ways that runs end, with what is asked for beside them; and what is answered.
use Rattle.std.specs.Prelude.{◌≡◌, Bool, true, false, List, [], map, Option, Result, Ok, Err, ℕ, string_bytes}
use Rattle.std.specs.declared.alloc.AllocError.{AllocError}
use Rattle.mpd_model.specs.declared.call.Mode.{Mode}
use Rattle.mpd_model.specs.script.Program.{Program}
use Rattle.mpd_model.specs.steps.World.{World, start}
use Rattle.mpd_model.specs.runs.Trail.{Standing, done_steps}
use Rattle.mpd_policy.specs.Wide.{wide_decision}
use Rattle.mpd_model.specs.devices.Seen.{SinkSeen}
use Rattle.mpd_explore.specs.declared.report.SearchLeaf.{SearchLeaf}
use Rattle.mpd_explore.specs.WitnessTexts.{witness_texts}
use Rattle.mpd_blame.specs.declared.told.PlacedBlame.{PlacedBlame}
use Rattle.mpd_blame.specs.Told.{AreJudged}
use Rattle.mpd_outcomes.specs.declared.report.Outcomes.{Outcomes}
use Rattle.mpd_outcomes.specs.declared.report.StateLimits.{StateLimits}
use Rattle.mpd_outcomes.specs.Goals.{AreTold}
use Rattle.mpd_lines.specs.declared.engine.EngineFault.{EngineFault}
use Rattle.mpd_lines.specs.declared.engine.EngineFault.TheVariants.{ReadFailed, WriteFailed, TooManyTurns, Memory}
use Rattle.mpd_check.specs.declared.counts.Tally.{Tally}
use Rattle.mpd_check.specs.declared.modes.Listed.TheVariants as listed
use Rattle.mpd_check.specs.declared.outcomes.OutcomesFound.{OutcomesFound}
use Rattle.mpd_check.specs.declared.outcomes.OutcomesListing.{OutcomesListing}
use Rattle.mpd_check.specs.declared.outcomes.ToldOutcomes.{ToldOutcomes}
use Rattle.mpd_check.specs.ModeText.{mode_line}
use Rattle.mpd_check.specs.Shown.{ends_if}
use Rattle.mpd_check.specs.Tally.{tally_of}
use Rattle.mpd_runs.specs.Counts.{told_counts}
use Rattle.mpd_check.specs.Checked.{Wrote, WrotePart}

-- ---- what is found

-- where it was decided how the first runs end, where these are explained
abbrev pub AreDecided : Bool → StateLimits → Standing → List SearchLeaf → List (Option PlacedBlame) → Type 0
AreDecided false limits d leaves blames = blames ≡ []
AreDecided true limits d leaves blames = AreJudged limits.visited limits.fuel d leaves blames

-- The ways to end where a debugger stands, which is at the start, with what is asked for beside them.
pub record AreOutcomes (explain : Bool) (limits : StateLimits) (d : Standing) (v : OutcomesListing) : Type 0 where
  pub told : AreTold limits d.world v.outcomes
  pub witnesses : map string_bytes v.outcomes.firsts.witnesses.items ≡ witness_texts wide_decision limits.witnesses (done_steps d.trail) limits.fuel d.world v.outcomes.firsts.leaves.items
  pub ends_are : v.ends.items ≡ ends_if wide_decision explain limits.fuel d v.outcomes.firsts.leaves.items
  pub decided : AreDecided explain limits d v.outcomes.firsts.leaves.items v.blames.items

-- ---- what is answered

-- what was found of the ways to end
abbrev pub tally_in : Outcomes → Tally
tally_in o = tally_of o.firsts.leaves.items o.firsts.more

abbrev pub found_in : Outcomes → OutcomesFound
found_in o = record { tally = tally_in o; counts = told_counts o; states = o.visited }

-- the text that was made is of what is told of the runs from there, and so is what was found
abbrev pub IsTextOf : (Outcomes → List ℕ → Type 0) → StateLimits → World → ToldOutcomes → Type 0
IsTextOf tells limits w told = (o : Outcomes) × AreTold limits w o × tells o told.text.items × (told.found ≡ found_in o)

-- a text that was made is written, or a part of it until a write failed; and nothing where none was made
abbrev pub PutOutcomes : Result ToldOutcomes AllocError → SinkSeen → SinkSeen → Result OutcomesFound EngineFault → Type 0
PutOutcomes (Ok told) old new (Ok found) = Wrote told.text.items old new × (found ≡ told.found)
PutOutcomes (Ok told) old new (Err WriteFailed) = WrotePart told.text.items old new
PutOutcomes (Err refused) old new (Err Memory) = new ≡ old
PutOutcomes told old new result = ⊥

-- Such a text of what is told of the runs from a script's start was written, or a part of it until a write failed; or nothing, where memory
-- was refused.
abbrev pub OutcomesAnsweredBy : (Outcomes → List ℕ → Type 0) → StateLimits → Program → Mode → SinkSeen → SinkSeen → Result OutcomesFound EngineFault → Type 0
OutcomesAnsweredBy tells limits s mode old new (Ok found) = (o : Outcomes) × AreTold limits (start s mode) o × (text : List ℕ) × tells o text × Wrote text old new × (found ≡ found_in o)
OutcomesAnsweredBy tells limits s mode old new (Err WriteFailed) = (o : Outcomes) × AreTold limits (start s mode) o × (text : List ℕ) × tells o text × WrotePart text old new
OutcomesAnsweredBy tells limits s mode old new (Err Memory) = new ≡ old
OutcomesAnsweredBy tells limits s mode old new (Err ReadFailed) = ⊥
OutcomesAnsweredBy tells limits s mode old new (Err TooManyTurns) = ⊥

-- a text of the ways to end: what is said of them is in no clause
abbrev pub IsAnyText : Outcomes → List ℕ → Type 0
IsAnyText o text = Unit {0}

abbrev pub OutcomesAnswered : StateLimits → Program → Mode → SinkSeen → SinkSeen → Result OutcomesFound EngineFault → Type 0
OutcomesAnswered limits s mode old new result = OutcomesAnsweredBy IsAnyText limits s mode old new result

-- one line of what they tell
abbrev pub IsModeLine : Mode → Outcomes → List ℕ → Type 0
IsModeLine mode o text = text ≡ mode_line listed.Outcomes mode (tally_in o)

abbrev pub ModeOutcomesAnswered : StateLimits → Program → Mode → SinkSeen → SinkSeen → Result OutcomesFound EngineFault → Type 0
ModeOutcomesAnswered limits s mode old new result = OutcomesAnsweredBy (IsModeLine mode) limits s mode old new result
