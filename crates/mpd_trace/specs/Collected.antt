-- What was read of an input up to the line that divides it.
use Rattle.std.specs.Prelude.{◌≡◌, ℕ, ◌+◌, ◌<◌, ◌≤◌, List, [], ◌++◌, length, Result, Ok, Err, ⊤}
use Rattle.std.specs.Io.KnownBytes.{Consumes, IsAtEnd}
use Rattle.mpd_model.specs.devices.Seen.{SourceSeen}
use Rattle.mpd_model.specs.declared.limits.TheConstants.{READS_MAX, SCRIPT_MAX}
use Rattle.mpd_model.specs.texts.Lines.{divided}
use Rattle.mpd_lines.specs.declared.engine.TheConstants.{READ_MAX}
use Rattle.mpd_lines.specs.declared.engine.EngineFault.{EngineFault}
use Rattle.mpd_lines.specs.declared.engine.EngineFault.TheVariants.{ReadFailed, WriteFailed, TooManyTurns, Memory}
use Rattle.mpd_lines.specs.FaultWords.{failed_reads}
use Rattle.mpd_trace.specs.Divided.{Begun, IsOpen, IsHeld, splits}
use Rattle.mpd_trace.specs.declared.plain_trace.HeadEnd.{HeadEnd}
use Rattle.mpd_trace.specs.declared.plain_trace.HeadEnd.TheVariants.{InputEnds, LineDivides, TooLong}
use Rattle.mpd_trace.specs.declared.plain_trace.Head.{Head}

-- These bytes were read in time: up to the last read, of 4,096 bytes at most, it was open where the script ends.
abbrev pub IsJustRead : List ℕ → Type 0
IsJustRead read = (before : List ℕ) × (last : List ℕ) × (read ≡ before ++ last) × (length last ≤ READ_MAX) × IsOpen before

-- where the input stands after these bytes, of so many reads: the script and the bytes after the line that divides
abbrev pub HeadOf : HeadEnd → List ℕ → ℕ → SourceSeen → SourceSeen → List ℕ → List ℕ → Type 0
HeadOf InputEnds read reads s t script behind = IsAtEnd t.remaining × (t.ends ≡ s.ends + 1) × (divided read ≡ (script, [])) × (behind ≡ [])
HeadOf LineDivides read reads s t script behind = (t.ends ≡ s.ends) × ((z : List ℕ) → divided (read ++ z) ≡ (script, behind ++ z)) × (reads ≤ length read)
HeadOf TooLong read reads s t script behind =
    (t.ends ≡ s.ends) × ((z : List ℕ) → (more : List ℕ) × ((divided (read ++ z)).0 ≡ script ++ more)) × (SCRIPT_MAX < length script)

-- a head was read, or why not
abbrev pub Collected : SourceSeen → SourceSeen → Result Head EngineFault → Type 0
Collected s t (Ok head) =
    (read : List ℕ) × Consumes s.remaining t.remaining read × IsJustRead read × HeadOf head.end read head.reads s t head.script.items head.behind.items
    × (t.calls ≡ s.calls + head.reads) × (head.reads ≤ READS_MAX)
Collected s t (Err ReadFailed) = (read : List ℕ) × Consumes s.remaining t.remaining read × IsOpen read × (t.ends ≡ s.ends)
Collected s t (Err WriteFailed) = ⊥
Collected s t (Err TooManyTurns) =
    (read : List ℕ) × Consumes s.remaining t.remaining read × IsOpen read × (READS_MAX ≤ length read) × (t.calls ≡ s.calls + READS_MAX) × (t.ends ≡ s.ends)
Collected s t (Err Memory) = ⊤

-- so many reads at most were made, and so many failed
pub record CollectCounted (s t : SourceSeen) (result : Result Head EngineFault) : Type 0 where
  pub calls : t.calls ≤ s.calls + READS_MAX
  pub reads_failed : t.failures ≡ s.failures + failed_reads result

-- so many reads were made: the input is divided after what was read as the divider says
pub record Follows (s t : SourceSeen) (turn : ℕ) (begun : Begun) : Type 0 where
  pub read : List ℕ
  pub consumed : Consumes s.remaining t.remaining read
  pub count : turn ≤ length read
  pub divides : (z : List ℕ) → splits begun z ≡ divided (read ++ z)
  pub short : length begun.known ≤ SCRIPT_MAX
  pub held : IsHeld begun
  pub calls : t.calls ≡ s.calls + turn
  pub failures : t.failures ≡ s.failures
  pub ends : t.ends ≡ s.ends
