-- Answers that are gathered before they are written.
use Rattle.std.specs.Prelude.{◌≡◌, ℕ, ◌+◌, ◌<◌, List, [], ◌++◌, length, Option, Result, Ok, Err}
use Rattle.std.specs.Io.KnownBytes.{Appends}
use Rattle.mpd_model.specs.devices.Seen.{SinkSeen}
use Rattle.mpd_model.specs.declared.device.DeviceFault.{DeviceFault}
use Rattle.mpd_lines.specs.Forward.{ended_from, part_from}
use Rattle.mpd_lines.specs.Telling.{SaysInTurn, Tells, BreaksOff, AppendsPart}

-- of what waited and the answers to these lines, a first part was written, and the rest waits now
abbrev pub Gathers : {D : Type 0} → (D → List ℕ → List ℕ → D → Type 0) → D → List (List ℕ) → Option (List ℕ) → List ℕ → Option (List ℕ) → List ℕ → D → Type 0
Gathers says d ls old before new after e =
    (text : List ℕ) × (written : List ℕ) × (written ++ after ≡ before ++ text) × Appends old new written × SaysInTurn says d ls text e

-- what was made of the answers to these lines, where fewer than so many bytes may wait
abbrev pub Gathered : {D : Type 0} → (D → List ℕ → List ℕ → D → Type 0) → ℕ → D → List (List ℕ) → SinkSeen → List ℕ → SinkSeen → List ℕ → D → Result (Unit {0}) DeviceFault → Type 0
Gathered says below d ls old before new after e (Ok u) = Gathers says d ls old.contents before new.contents after e × (new.failures ≡ old.failures) × (length after < below)
Gathered says below d ls old before new after e (Err f) = BreaksOff says below d ls old.contents before new.contents e × (new.failures ≡ old.failures + 1)

-- these bytes were written, or a part of them until a write failed
abbrev pub Written : List ℕ → SinkSeen → SinkSeen → Result (Unit {0}) DeviceFault → Type 0
Written bytes old new (Ok u) = Appends old.contents new.contents bytes × (new.failures ≡ old.failures)
Written bytes old new (Err f) = AppendsPart old.contents new.contents bytes × (new.failures ≡ old.failures + 1)

-- a first part of these bytes was written, and the rest waits; or a part of them until a write failed
abbrev pub Relieved : List ℕ → SinkSeen → SinkSeen → List ℕ → Result (Unit {0}) DeviceFault → Type 0
Relieved bytes old new after (Ok u) = (written : List ℕ) × (written ++ after ≡ bytes) × Appends old.contents new.contents written × (new.failures ≡ old.failures)
Relieved bytes old new after (Err f) = AppendsPart old.contents new.contents bytes × (new.failures ≡ old.failures + 1)

-- the answers to these lines were written, or a part of them until a write failed
abbrev pub Spoken : {D : Type 0} → (D → List ℕ → List ℕ → D → Type 0) → ℕ → D → List (List ℕ) → SinkSeen → SinkSeen → D → Result (Unit {0}) DeviceFault → Type 0
Spoken says below d ls old new e (Ok u) = Tells says d ls old.contents new.contents e × (new.failures ≡ old.failures)
Spoken says below d ls old new e (Err f) = BreaksOff says below d ls old.contents [] new.contents e × (new.failures ≡ old.failures + 1)

-- of the lines that end within z after the part p, all but those that end within rest after the part q were answered
pub record Fed {D : Type 0} (says : D → List ℕ → List ℕ → D → Type 0) (below : ℕ) (d : D) (p z : List ℕ) (old : SinkSeen) (before : List ℕ) (new : SinkSeen) (after : List ℕ) (e : D) (q rest : List ℕ) : Type 0 where
  pub lines : List (List ℕ)
  pub ended : lines ++ ended_from q rest ≡ ended_from p z
  pub part : part_from q rest ≡ part_from p z
  pub gathered : Gathers says d lines old.contents before new.contents after e
  pub failures : new.failures ≡ old.failures
  pub few : length after < below
