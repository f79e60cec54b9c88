-- What is read of a source that may have so many bytes.
use Rattle.std.specs.Prelude.{◌≡◌, ℕ, ◌+◌, ◌≤◌, ◌⊎◌, List, length}
use Rattle.std.specs.Io.KnownBytes.{Consumes, IsAtEnd}
use Rattle.mpd_model.specs.devices.Seen.{SourceSeen}
use Rattle.mpd_lines.specs.declared.engine.EngineFault.{EngineFault}
use Rattle.mpd_lines.specs.declared.engine.EngineFault.TheVariants.{ReadFailed, WriteFailed, TooManyTurns, Memory}

-- the text is all that the source had, or it is one byte longer than it may be
abbrev pub IsWhole : ℕ → SourceSeen → SourceSeen → List ℕ → Type 0
IsWhole max s t text =
    (IsAtEnd t.remaining × (t.ends ≡ s.ends + 1) × (length text ≤ max)) ⊎ ((t.ends ≡ s.ends) × (length text ≡ max + 1))

-- the text was read, by reads that each gave a byte but for the last, and none of which failed
pub record IsRead (max : ℕ) (s t : SourceSeen) (text : List ℕ) : Type 0 where
  pub consumed : Consumes s.remaining t.remaining text
  pub whole : IsWhole max s t text
  pub calls : t.calls ≤ s.calls + length text + 1
  pub failures : t.failures ≡ s.failures

-- a read failed after these bytes, which may still be all
pub record IsCutOff (max : ℕ) (s t : SourceSeen) (text : List ℕ) : Type 0 where
  pub consumed : Consumes s.remaining t.remaining text
  pub short : length text ≤ max
  pub calls : t.calls ≤ s.calls + length text + 1
  pub failures : t.failures ≡ s.failures + 1
  pub ends : t.ends ≡ s.ends

-- why no text was read: a read failed, or memory was refused before the first
abbrev pub IsUnread : ℕ → SourceSeen → SourceSeen → EngineFault → Type 0
IsUnread max s t ReadFailed = (text : List ℕ) × IsCutOff max s t text
IsUnread max s t WriteFailed = ⊥
IsUnread max s t TooManyTurns = ⊥
IsUnread max s t Memory = t ≡ s

-- so many reads were made, which each gave a byte
pub record Gathered (max : ℕ) (s t : SourceSeen) (turn : ℕ) (text : List ℕ) : Type 0 where
  pub consumed : Consumes s.remaining t.remaining text
  pub count : turn ≤ length text
  pub short : length text ≤ max
  pub calls : t.calls ≡ s.calls + turn
  pub failures : t.failures ≡ s.failures
  pub ends : t.ends ≡ s.ends
