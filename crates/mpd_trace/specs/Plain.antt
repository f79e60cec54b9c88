-- What comes of an input that has a script and the lines of its trace.
use Rattle.std.specs.Prelude.{◌≡◌, ◌≢◌, ℕ, ◌+◌, ◌≤◌, ◌==◌, ◌⊎◌, List, ◌++◌, true, length, take, count_by, Result, Ok, Err, []}
use Rattle.std.specs.Io.KnownBytes.{Consumes, IsAtEnd}
use Rattle.mpd_model.specs.devices.Seen.{SourceSeen, SinkSeen}
use Rattle.mpd_model.specs.declared.limits.TheConstants.{READS_MAX}
use Rattle.mpd_model.specs.texts.Answers.{AnswerOrMemory}
use Rattle.mpd_model.specs.grammar.Grammar.{reading}
use Rattle.mpd_model.specs.texts.Lines.{divided, lines_of, ended_lines}
use Rattle.mpd_model.specs.script.Program.{Program}
use Rattle.mpd_model.specs.runs.Trail.{Standing, first_standing}
use Rattle.mpd_model.specs.declared.call.Mode.TheVariants.{Rendezvous}
use Rattle.mpd_model.specs.declared.read_fault.ReadFault.{ReadFault}
use Rattle.mpd_model.specs.declared.read_fault.FaultCode.TheVariants as code
use Rattle.mpd_lines.specs.Telling.{Tells, BreaksOff, waiting_below}
use Rattle.mpd_lines.specs.declared.engine.EngineFault.TheVariants.{ReadFailed, WriteFailed, TooManyTurns, Memory}
use Rattle.mpd_trace.specs.Divided.{has_divider, IsOpen}
use Rattle.mpd_trace.specs.Collected.{IsJustRead}
use Rattle.mpd_trace.specs.declared.plain_trace.PlainFault.{PlainFault}
use Rattle.mpd_trace.specs.declared.plain_trace.PlainFault.TheVariants.{Script, Engine}

-- the line of a place in a text, from 1
abbrev pub line_at : List ℕ → ℕ → ℕ
line_at text place = count_by (λ b. b == 10) (take place text) + 1

-- whatever follows these bytes (nothing, where the input has ended), the script is refused so
abbrev pub IsRefused : SourceSeen → SourceSeen → List ℕ → ReadFault → ℕ → Type 0
IsRefused s t read fault line =
    (z : List ℕ) → (t.ends ≡ s.ends) ⊎ (z ≡ []) → (reading (divided (read ++ z)).0 ≡ Err fault) × (line ≡ line_at (divided (read ++ z)).0 fault.place)

-- the script of these bytes is p, and its debugger answered these lines
abbrev pub Traces : List ℕ → List (List ℕ) → SinkSeen → SinkSeen → Type 0
Traces read lines v w =
    (p : Program) × (e : Standing) × (reading (divided read).0 ≡ Ok p) × Tells AnswerOrMemory (first_standing p Rendezvous) lines v.contents w.contents e

-- or a write failed after a part of these answers
abbrev pub TracesPart : List ℕ → List (List ℕ) → SinkSeen → SinkSeen → Type 0
TracesPart read lines v w =
    (p : Program) × (e : Standing) × (reading (divided read).0 ≡ Ok p)
    × BreaksOff AnswerOrMemory (waiting_below true) (first_standing p Rendezvous) lines v.contents [] w.contents e

-- before the line that divides nothing is written; after it, the answers to the lines that have ended
abbrev pub TracesSoFar : List ℕ → SinkSeen → SinkSeen → Type 0
TracesSoFar read v w = (IsOpen read × (w ≡ v)) ⊎ ((has_divider read ≡ true) × Traces read (ended_lines (divided read).1) v w)

-- What was read and written, by what is answered: at the end of the input the answers to all lines after the script; where
-- a read failed, or no more may be made, those to the lines that have ended; where a write failed, a part of these, but not all of
-- them, and all but fewer bytes than are gathered and the last answer. A script that is refused writes nothing, and is refused at
-- once. Where memory is refused, nothing is written.
abbrev pub PlainServed : SourceSeen → SourceSeen → SinkSeen → SinkSeen → Result (Unit {0}) PlainFault → Type 0
PlainServed s t v w (Ok u) =
    (read : List ℕ) × Consumes s.remaining t.remaining read × IsAtEnd t.remaining × (t.ends ≡ s.ends + 1) × Traces read (lines_of (divided read).1) v w
PlainServed s t v w (Err (Script fault line)) =
    (read : List ℕ) × Consumes s.remaining t.remaining read × IsJustRead read × (w ≡ v) × (fault.code ≢ code.Memory) × IsRefused s t read fault line
PlainServed s t v w (Err (Engine ReadFailed)) = (read : List ℕ) × Consumes s.remaining t.remaining read × (t.ends ≡ s.ends) × TracesSoFar read v w
PlainServed s t v w (Err (Engine WriteFailed)) =
    (read : List ℕ) × Consumes s.remaining t.remaining read × (has_divider read ≡ true)
    × (TracesPart read (ended_lines (divided read).1) v w ⊎ (IsAtEnd t.remaining × TracesPart read (lines_of (divided read).1) v w))
PlainServed s t v w (Err (Engine TooManyTurns)) =
    (read : List ℕ) × Consumes s.remaining t.remaining read × (READS_MAX ≤ length read) × (t.calls ≡ s.calls + READS_MAX) × (t.ends ≡ s.ends) × TracesSoFar read v w
PlainServed s t v w (Err (Engine Memory)) = w ≡ v

-- a script that was refused is this text, as far as it was read: it is refused so
abbrev pub KeepsRefused : List ℕ → Result (Unit {0}) PlainFault → Type 0
KeepsRefused text (Ok u) = Unit {0}
KeepsRefused text (Err (Script fault line)) = (reading text ≡ Err fault) × (line ≡ line_at text fault.place)
KeepsRefused text (Err (Engine fault)) = Unit {0}
