-- What is read of a report's file.
use Rattle.std.specs.Prelude.{◌≡◌, ℕ, ◌<◌, ◌≤◌, ◌⊎◌, List, length, Option, Result, Ok, Err}
use Rattle.mpd_model.specs.devices.Seen.{SourceSeen}
use Rattle.mpd_explore.specs.declared.report.EndWitness.{EndWitness}
use Rattle.mpd_lines.specs.declared.engine.EngineFault.TheVariants.{ReadFailed, WriteFailed, TooManyTurns, Memory}
use Rattle.mpd_lines.specs.UpTo.{IsRead, IsUnread}
use Rattle.mpd_witness.specs.declared.report_file.TheConstants.{WITNESS_MAX}
use Rattle.mpd_witness.specs.declared.report_text.ReportFault.{ReportFault}
use Rattle.mpd_witness.specs.declared.report_text.ReportFault.TheVariants.{BadLine, NoWitness, SeveralWitnesses, NoSuchLeaf, NoDeadlock, Engine}
use Rattle.mpd_witness.specs.ReadBack.{witness_of_report}

-- the whole text was read, and this is what is read of it
abbrev pub IsOfText : Option ℕ → SourceSeen → SourceSeen → Result EndWitness ReportFault → Type 0
IsOfText leaf s t result = (text : List ℕ) × IsRead WITNESS_MAX s t text × (length text ≤ WITNESS_MAX) × (witness_of_report leaf text ≡ result)

-- the text is too long
abbrev pub IsLong : SourceSeen → SourceSeen → Type 0
IsLong s t = (text : List ℕ) × IsRead WITNESS_MAX s t text × (WITNESS_MAX < length text)

-- The witness is that of the whole text; or that has none, or not the one that is wanted, or a line of it is wrong, the second where the text
-- is too long; or no text was read; or memory was refused.
abbrev pub IsFromReport : Option ℕ → SourceSeen → SourceSeen → Result EndWitness ReportFault → Type 0
IsFromReport leaf s t (Ok x) = IsOfText leaf s t (Ok x)
IsFromReport leaf s t (Err (BadLine n)) = IsOfText leaf s t (Err (BadLine n)) ⊎ (IsLong s t × (n ≡ 2))
IsFromReport leaf s t (Err NoWitness) = IsOfText leaf s t (Err NoWitness)
IsFromReport leaf s t (Err SeveralWitnesses) = IsOfText leaf s t (Err SeveralWitnesses)
IsFromReport leaf s t (Err NoSuchLeaf) = IsOfText leaf s t (Err NoSuchLeaf)
IsFromReport leaf s t (Err NoDeadlock) = IsOfText leaf s t (Err NoDeadlock)
IsFromReport leaf s t (Err (Engine ReadFailed)) = IsUnread WITNESS_MAX s t ReadFailed
IsFromReport leaf s t (Err (Engine TooManyTurns)) = ⊥
IsFromReport leaf s t (Err (Engine WriteFailed)) = ⊥
IsFromReport leaf s t (Err (Engine Memory)) = t.failures ≡ s.failures
