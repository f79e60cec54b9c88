-- Whether the text of a script in C was written.
use Rattle.std.specs.Prelude.{◌≡◌, ℕ, ◌+◌, List, Result, Ok, Err}
use Rattle.std.specs.Io.KnownBytes.{Appends}
use Rattle.mpd_model.specs.devices.Seen.{SinkSeen}
use Rattle.mpd_lines.specs.declared.engine.EngineFault.{EngineFault}
use Rattle.mpd_lines.specs.declared.engine.EngineFault.TheVariants as fault
use Rattle.mpd_lines.specs.Telling.{AppendsPart}

-- A text was added, or a part of one until a write failed; or nothing was, for want of memory.
abbrev pub WroteC : SinkSeen → SinkSeen → Result (Unit {0}) EngineFault → Type 0
WroteC old new (Ok u) =
    (text : List ℕ) × Appends old.contents new.contents text × (new.failures ≡ old.failures)
WroteC old new (Err fault.WriteFailed) =
    (text : List ℕ) × AppendsPart old.contents new.contents text
    × (new.failures ≡ old.failures + 1)
WroteC old new (Err fault.Memory) = new ≡ old
WroteC old new (Err fault.ReadFailed) = ⊥
WroteC old new (Err fault.TooManyTurns) = ⊥
