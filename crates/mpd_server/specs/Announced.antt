-- What a server writes of itself: `listening P` before its first client, and `served E` after its
-- last.
use Rattle.std.specs.Prelude.{◌≡◌, ℕ, ◌+◌, ◌^◌, ◌<◌, ◌≤◌, List, ◌++◌, codes, decimal, Result, Ok, Err, ⊤}
use Rattle.std.specs.Io.KnownBytes.{Appends}
use Rattle.mpd_model.specs.texts.Texts.{line}
use Rattle.mpd_model.specs.devices.Seen.{SinkSeen}
use Rattle.mpd_lines.specs.Telling.{AppendsPart}
use Rattle.mpd_session.specs.declared.history.TheConstants.{HISTORY_MAX}
use Rattle.mpd_server.specs.declared.fault.HostFault.{HostFault}
use Rattle.mpd_server.specs.declared.fault.HostFault.TheVariants.{Memory, NoPort, WriteFailed, NotAccepted, Settle}

abbrev pub listening_line : ℕ → List ℕ
listening_line port = line (codes "listening " ++ decimal port)

abbrev pub served_line : ℕ → List ℕ
served_line entries = line (codes "served " ++ decimal entries)

-- a text was written, and no write failed
abbrev pub Wrote : List ℕ → SinkSeen → SinkSeen → Type 0
Wrote text old new = Appends old.contents new.contents text × (new.failures ≡ old.failures)

-- a write failed, and only a part of a text was written, from its beginning on
abbrev pub WrotePart : List ℕ → SinkSeen → SinkSeen → Type 0
WrotePart text old new = AppendsPart old.contents new.contents text × (new.failures ≡ old.failures + 1)

-- the first line was written, and nothing else
abbrev pub Listens : SinkSeen → SinkSeen → Type 0
Listens old new = (port : ℕ) × (port < 2 ^ 16) × Wrote (listening_line port) old new

-- By what is answered: both lines were written, and the second has the number of the answer; or a
-- write failed, and a part of the two was written; or a client was not accepted, or receipts don't
-- agree with the history, and the first line was written alone; or memory or the port was wanting,
-- and nothing was written.
abbrev pub Announced : SinkSeen → SinkSeen → Result ℕ HostFault → Type 0
Announced old new (Ok entries) = (port : ℕ) × (port < 2 ^ 16) × (entries ≤ HISTORY_MAX) × Wrote (listening_line port ++ served_line entries) old new
Announced old new (Err WriteFailed) =
    (port : ℕ) × (entries : ℕ) × (port < 2 ^ 16) × (entries ≤ HISTORY_MAX) × WrotePart (listening_line port ++ served_line entries) old new
Announced old new (Err (NotAccepted error)) = Listens old new
Announced old new (Err (Settle fault)) = Listens old new
Announced old new (Err Memory) = new ≡ old
Announced old new (Err (NoPort error)) = new ≡ old

-- ---- its parts

-- before the first client
abbrev pub Listened : SinkSeen → SinkSeen → Result (Unit {0}) HostFault → Type 0
Listened old new (Ok u) = Listens old new
Listened old new (Err WriteFailed) = (port : ℕ) × (port < 2 ^ 16) × WrotePart (listening_line port) old new
Listened old new (Err (NotAccepted error)) = ⊥
Listened old new (Err (Settle fault)) = ⊥
Listened old new (Err Memory) = ⊥
Listened old new (Err (NoPort error)) = new ≡ old

-- what comes of serving clients
abbrev pub IsOutcome : Result ℕ HostFault → Type 0
IsOutcome (Ok entries) = entries ≤ HISTORY_MAX
IsOutcome (Err WriteFailed) = ⊥
IsOutcome (Err (NotAccepted error)) = ⊤
IsOutcome (Err (Settle fault)) = ⊤
IsOutcome (Err Memory) = ⊥
IsOutcome (Err (NoPort error)) = ⊥

-- after the last client, so many of whose requests have entries
abbrev pub Ended : ℕ → SinkSeen → SinkSeen → Result ℕ HostFault → Type 0
Ended entries old new (Ok told) = (told ≡ entries) × Wrote (served_line entries) old new
Ended entries old new (Err WriteFailed) = WrotePart (served_line entries) old new
Ended entries old new (Err (NotAccepted error)) = ⊥
Ended entries old new (Err (Settle fault)) = ⊥
Ended entries old new (Err Memory) = ⊥
Ended entries old new (Err (NoPort error)) = ⊥

-- the same, by what has come of serving them: a fault is passed on, and nothing is written
abbrev pub Concluded : Result ℕ HostFault → SinkSeen → SinkSeen → Result ℕ HostFault → Type 0
Concluded (Ok entries) old new result = Ended entries old new result
Concluded (Err fault) old new result = (result ≡ Err fault) × (new ≡ old)
