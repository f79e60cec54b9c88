-- What one read and the answers to it have brought, and many of them.
use Rattle.std.specs.Prelude.{◌≡◌, ℕ, ◌+◌, ◌*◌, ◌<◌, ◌≤◌, ◌⊎◌, List, [], ◌++◌, length, Result, Ok, Err}
use Rattle.std.specs.Io.KnownBytes.{Consumes, IsAtEnd, Keeps}
use Rattle.mpd_model.specs.devices.Seen.{SourceSeen, SinkSeen}
use Rattle.mpd_lines.specs.Forward.{ended_from, part_from, last_line}
use Rattle.mpd_lines.specs.Telling.{Tells, BreaksOff}
use Rattle.mpd_lines.specs.FaultWords.{failed_reads, failed_writes}
use Rattle.mpd_lines.specs.declared.engine.EngineFault.{EngineFault}
use Rattle.mpd_lines.specs.declared.engine.EngineFault.TheVariants.{ReadFailed, WriteFailed, TooManyTurns, Memory}
use Rattle.mpd_lines.specs.declared.engine.Turn.{Turn}
use Rattle.mpd_lines.specs.declared.engine.Turn.TheVariants.{More, End}

-- One read, after the part p of a line, which leaves the part q: when the turn is over, the answers to all lines that have ended are written.
abbrev pub Turned : {D : Type 0} → (D → List ℕ → List ℕ → D → Type 0) → ℕ → D → List ℕ → SourceSeen → SourceSeen → SinkSeen → SinkSeen → D → List ℕ → Result Turn EngineFault → Type 0
Turned says below d p s t v w e q (Ok More) =
    (piece : List ℕ) × Consumes s.remaining t.remaining piece × (0 < length piece) × (t.ends ≡ s.ends) × (q ≡ part_from p piece)
    × Tells says d (ended_from p piece) v.contents w.contents e × (length piece ≤ 4096)
Turned says below d p s t v w e q (Ok End) =
    Consumes s.remaining t.remaining [] × IsAtEnd t.remaining × (t.ends ≡ s.ends + 1) × Tells says d (last_line p) v.contents w.contents e
Turned says below d p s t v w e q (Err ReadFailed) = Keeps s.remaining t.remaining × (t.ends ≡ s.ends) × (w ≡ v) × (e ≡ d)
Turned says below d p s t v w e q (Err WriteFailed) =
    ((piece : List ℕ) × Consumes s.remaining t.remaining piece × BreaksOff says below d (ended_from p piece) v.contents [] w.contents e × (length piece ≤ 4096))
    ⊎ (Consumes s.remaining t.remaining [] × IsAtEnd t.remaining × BreaksOff says below d (last_line p) v.contents [] w.contents e)
Turned says below d p s t v w e q (Err TooManyTurns) = ⊥
Turned says below d p s t v w e q (Err Memory) = ⊥

-- one read was made, and so many calls failed
pub record CountedOnce (s t : SourceSeen) (v w : SinkSeen) (result : Result Turn EngineFault) : Type 0 where
  pub calls : t.calls ≡ s.calls + 1
  pub reads_failed : t.failures ≡ s.failures + failed_reads result
  pub writes_failed : w.failures ≡ v.failures + failed_writes result

-- so many turns, after what was read before: the answers to all lines that have ended are written
pub record SoFar {D : Type 0} (says : D → List ℕ → List ℕ → D → Type 0) (d : D) (before : List ℕ) (turn : ℕ) (s t : SourceSeen) (v w : SinkSeen) (e : D) (q : List ℕ) : Type 0 where
  pub read : List ℕ
  pub consumed : Consumes s.remaining t.remaining read
  pub count : turn ≤ length read
  pub most : length read ≤ 4096 * turn
  pub part : q ≡ part_from [] (before ++ read)
  pub told : Tells says d (ended_from [] (before ++ read)) v.contents w.contents e
  pub calls : t.calls ≡ s.calls + turn
  pub failures : t.failures ≡ s.failures
  pub ends : t.ends ≡ s.ends
  pub writes : w.failures ≡ v.failures
