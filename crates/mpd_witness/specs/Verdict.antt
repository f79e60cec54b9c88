-- What is answered to a witness.
use Rattle.std.specs.Prelude.{◌≡◌, ℕ, ◌+◌, List, [], ◌∷◌, ◌++◌, Result, Ok, Err, codes}
use Rattle.std.specs.Fmt.{decimal}
use Rattle.std.specs.Io.KnownBytes.{Appends}
use Rattle.mpd_model.specs.declared.call.Mode.{Mode}
use Rattle.mpd_model.specs.script.Program.{Program}
use Rattle.mpd_model.specs.steps.World.{World, start}
use Rattle.mpd_model.specs.texts.Texts.{line}
use Rattle.mpd_model.specs.devices.Seen.{SinkSeen}
use Rattle.mpd_explore.specs.declared.report.EndWitness.{EndWitness}
use Rattle.mpd_explore.specs.declared.verifier.WitnessFault.{WitnessFault}
use Rattle.mpd_explore.specs.declared.verifier.WitnessFault.TheVariants as fault
use Rattle.mpd_explore.specs.Faults.{witness_fault_number, witness_fault_name}
use Rattle.mpd_explore.specs.Witness.{IsEndWitnessFrom, HasFault}
use Rattle.mpd_lines.specs.declared.engine.EngineFault.{EngineFault}
use Rattle.mpd_lines.specs.declared.engine.EngineFault.TheVariants.{ReadFailed, WriteFailed, TooManyTurns, Memory}
use Rattle.mpd_lines.specs.declared.verdict.Verdict.{Verdict}
use Rattle.mpd_lines.specs.declared.verdict.Verdict.TheVariants.{Good, Bad, NotWhole}
use Rattle.mpd_lines.specs.Telling.{AppendsPart}

abbrev pub accepted_line : List ℕ
accepted_line = line (codes "accepted")

-- the place of a step that is not enabled
abbrev pub place_part : WitnessFault → List ℕ
place_part (fault.NoSuchStep place) = codes " at " ++ decimal place
place_part fault.NotStuck = []
place_part fault.WrongBlocked = []
place_part fault.Memory = []

-- `refused 32 no-such-step at 6`
abbrev pub refused_line : WitnessFault → List ℕ
refused_line e = line (codes "refused " ++ decimal (witness_fault_number e) ++ 32 ∷ witness_fault_name e ++ place_part e)

-- a witness that is one from here is accepted, and one that is none is refused for its first fault
abbrev pub IsVerdictFrom : World → EndWitness → List ℕ → Verdict → Type 0
IsVerdictFrom w x text Good = IsEndWitnessFrom w x × (text ≡ accepted_line)
IsVerdictFrom w x text Bad = (e : WitnessFault) × HasFault w 0 x.steps x.end e × (IsEndWitnessFrom w x → ⊥) × (text ≡ refused_line e)
IsVerdictFrom w x text NotWhole = ⊥

-- the same from the start of a script
abbrev pub IsVerdict : Program → Mode → EndWitness → List ℕ → Verdict → Type 0
IsVerdict s mode x text verdict = IsVerdictFrom (start s mode) x text verdict

-- The whole line was written; or a part of it until a write failed; or nothing, for want of memory.
abbrev pub Judged : Program → Mode → EndWitness → SinkSeen → SinkSeen → Result Verdict EngineFault → Type 0
Judged s mode x old new (Ok verdict) =
    (text : List ℕ) × IsVerdict s mode x text verdict × Appends old.contents new.contents text × (new.failures ≡ old.failures)
Judged s mode x old new (Err WriteFailed) =
    (text : List ℕ) × (verdict : Verdict) × IsVerdict s mode x text verdict × AppendsPart old.contents new.contents text × (new.failures ≡ old.failures + 1)
Judged s mode x old new (Err Memory) = new ≡ old
Judged s mode x old new (Err ReadFailed) = ⊥
Judged s mode x old new (Err TooManyTurns) = ⊥
