-- What one read and the answers to it have brought, and many of them.
use Rattle.std.specs.Prelude.{◌≡◌, ℕ, ◌+◌, ◌*◌, ◌<◌, ◌≤◌, Bool, List, [], length, Result, Ok, Err}
use Rattle.std.specs.Io.KnownBytes.{Consumes, IsAtEnd, Keeps}
use Rattle.mpd_model.specs.devices.Seen.{SourceSeen, SinkSeen}
use Rattle.mpd_lines.specs.declared.engine.EngineFault.TheVariants.{ReadFailed}
use Rattle.mpd_frames.specs.FaultWords.{failed_reads, failed_writes}
use Rattle.mpd_frames.specs.Reading.{Held, held_bytes}
use Rattle.mpd_frames.specs.Fed.{Fed}
use Rattle.mpd_frames.specs.declared.fault.StreamFault.{StreamFault}
use Rattle.mpd_frames.specs.declared.fault.StreamFault.TheVariants.{Engine}
use Rattle.mpd_frames.specs.declared.engine.Turn.{Turn}
use Rattle.mpd_frames.specs.declared.engine.Turn.TheVariants.{More, End}

-- one read gave this piece
pub record Gave (s t : SourceSeen) (piece : List ℕ) : Type 0 where
  pub consumed : Consumes s.remaining t.remaining piece
  pub some : 0 < length piece
  pub most : length piece ≤ 4096
  pub ends_same : t.ends ≡ s.ends

-- One read, where p is held before and q after: the end, a failure, or a piece, whose frames were answered.
abbrev pub Turned : {D : Type 0} → (D → List ℕ → List ℕ → D → Type 0) → (D → Bool) → D → Held → SourceSeen → SourceSeen → SinkSeen → SinkSeen → D → Held → Result Turn StreamFault → Type 0
Turned answers over d p s t v w e q (Ok End) = Consumes s.remaining t.remaining [] × IsAtEnd t.remaining × (t.ends ≡ s.ends + 1) × (w ≡ v) × (e ≡ d) × (q ≡ p)
Turned answers over d p s t v w e q (Err (Engine ReadFailed)) = Keeps s.remaining t.remaining × (t.ends ≡ s.ends) × (w ≡ v) × (e ≡ d) × (q ≡ p)
Turned answers over d p s t v w e q result = (piece : List ℕ) × Gave s t piece × Fed answers over d (held_bytes p) piece v w e q result

-- one read was made, and so many calls failed
pub record CountedOnce (s t : SourceSeen) (v w : SinkSeen) (result : Result Turn StreamFault) : Type 0 where
  pub calls : t.calls ≡ s.calls + 1
  pub reads_failed : t.failures ≡ s.failures + failed_reads result
  pub writes_failed : w.failures ≡ v.failures + failed_writes result

-- so many turns, none of which was the last
pub record SoFar {D : Type 0} (answers : D → List ℕ → List ℕ → D → Type 0) (over : D → Bool) (d : D) (turn : ℕ) (s t : SourceSeen) (v w : SinkSeen) (e : D) (q : Held) : Type 0 where
  pub read : List ℕ
  pub consumed : Consumes s.remaining t.remaining read
  pub count : turn ≤ length read
  pub most : length read ≤ 4096 * turn
  pub fed : Fed answers over d [] read v w e q (Ok More)
  pub calls : t.calls ≡ s.calls + turn
  pub failures : t.failures ≡ s.failures
  pub ends_same : t.ends ≡ s.ends
