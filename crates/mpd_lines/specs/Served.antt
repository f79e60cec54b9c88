-- What an engine has read and written, by what it answers.
use Rattle.std.specs.Prelude.{◌≡◌, ℕ, ◌+◌, ◌*◌, ◌≤◌, ◌⊎◌, List, [], ◌++◌, length, Result, Ok, Err}
use Rattle.std.specs.Io.KnownBytes.{Consumes, IsAtEnd}
use Rattle.mpd_model.specs.texts.Lines.{lines_of, ended_lines}
use Rattle.mpd_model.specs.devices.Seen.{SourceSeen, SinkSeen}
use Rattle.mpd_lines.specs.Telling.{Tells, BreaksOff}
use Rattle.mpd_lines.specs.declared.engine.EngineFault.{EngineFault}
use Rattle.mpd_lines.specs.declared.engine.EngineFault.TheVariants.{ReadFailed, WriteFailed, TooManyTurns, Memory}

-- The input is what was read before, and the bytes of the source; the desk d answers its lines, and is e then.
-- At the end of the input all of its lines were answered; where a read failed, or no more may be made, all lines that had
-- ended; where a write failed, a part of these answers was written, all of them but fewer bytes than `below` and the last answer.
-- Where memory is refused, nothing was read or written, and the desk is as before. A read gives 4,096 bytes at most.
abbrev pub Served : {D : Type 0} → (D → List ℕ → List ℕ → D → Type 0) → ℕ → D → List ℕ → ℕ → SourceSeen → SourceSeen → SinkSeen → SinkSeen → D → Result (Unit {0}) EngineFault → Type 0
Served says below d before turns s t v w e (Ok u) =
    (read : List ℕ) × Consumes s.remaining t.remaining read × IsAtEnd t.remaining × (t.ends ≡ s.ends + 1)
    × Tells says d (lines_of (before ++ read)) v.contents w.contents e × (length read ≤ 4096 * turns)
Served says below d before turns s t v w e (Err ReadFailed) =
    (read : List ℕ) × Consumes s.remaining t.remaining read × (t.ends ≡ s.ends)
    × Tells says d (ended_lines (before ++ read)) v.contents w.contents e × (length read ≤ 4096 * turns)
Served says below d before turns s t v w e (Err WriteFailed) =
    (read : List ℕ) × Consumes s.remaining t.remaining read
    × (BreaksOff says below d (ended_lines (before ++ read)) v.contents [] w.contents e ⊎ (IsAtEnd t.remaining × BreaksOff says below d (lines_of (before ++ read)) v.contents [] w.contents e))
    × (length read ≤ 4096 * turns)
Served says below d before turns s t v w e (Err TooManyTurns) =
    (read : List ℕ) × Consumes s.remaining t.remaining read × (turns ≤ length read) × (t.calls ≡ s.calls + turns) × (t.ends ≡ s.ends)
    × Tells says d (ended_lines (before ++ read)) v.contents w.contents e × (length read ≤ 4096 * turns)
Served says below d before turns s t v w e (Err Memory) = (t ≡ s) × (w ≡ v) × (e ≡ d)

-- so many reads at most were made, and so many of them, and of the writes, failed
pub record Counted (turns reads writes : ℕ) (s t : SourceSeen) (v w : SinkSeen) : Type 0 where
  pub calls : t.calls ≤ s.calls + turns
  pub reads_failed : t.failures ≡ s.failures + reads
  pub writes_failed : w.failures ≡ v.failures + writes
