-- The words of a run, and what is answered where they are written. What comes next in a state is told by a function.
use Rattle.std.specs.Prelude.{◌≡◌, ℕ, ◌+◌, List, Some, None, Result, Ok, Err}
use Rattle.std.specs.List.{flat_map}
use Rattle.std.specs.Io.KnownBytes.{Appends}
use Rattle.mpd_model.specs.declared.call.Mode.{Mode}
use Rattle.mpd_model.specs.declared.step.Step.{Step}
use Rattle.mpd_model.specs.declared.decision.Decision.{Decision}
use Rattle.mpd_model.specs.script.Program.{Program}
use Rattle.mpd_model.specs.steps.World.{World, start}
use Rattle.mpd_model.specs.texts.Texts.{line, step_text}
use Rattle.mpd_model.specs.devices.Seen.{SinkSeen}
use Rattle.mpd_policy.specs.Walk.{Run, run_by}
use Rattle.mpd_lines.specs.declared.engine.EngineFault.TheVariants.{ReadFailed, WriteFailed, TooManyTurns, Memory}
use Rattle.mpd_lines.specs.Telling.{AppendsPart}
use Rattle.mpd_runs.specs.declared.fault.WriteFault.{WriteFault}
use Rattle.mpd_runs.specs.declared.fault.WriteFault.TheVariants.{BadChoices, Engine}
use Rattle.mpd_runs.specs.Place.{bad_place}

-- a step as a trace word, on a line of its own
abbrev pub word_line : Step → List ℕ
word_line a = line (step_text a)

abbrev pub words_text : List Step → List ℕ
words_text steps = flat_map word_line steps

-- the whole text was written, or a part of it until a write failed
abbrev pub Wrote : List ℕ → SinkSeen → SinkSeen → Type 0
Wrote text old new = Appends old.contents new.contents text × (new.failures ≡ old.failures)

abbrev pub WrotePart : List ℕ → SinkSeen → SinkSeen → Type 0
WrotePart text old new = AppendsPart old.contents new.contents text × (new.failures ≡ old.failures + 1)

-- what a write of this text answers
abbrev pub Put : List ℕ → SinkSeen → SinkSeen → Result (Unit {0}) WriteFault → Type 0
Put text old new (Ok u) = Wrote text old new
Put text old new (Err (BadChoices place)) = ⊥
Put text old new (Err (Engine WriteFailed)) = WrotePart text old new
Put text old new (Err (Engine Memory)) = ⊥
Put text old new (Err (Engine ReadFailed)) = ⊥
Put text old new (Err (Engine TooManyTurns)) = ⊥

-- Of the run that makes exactly these choices from a script's start, with so much fuel, all words were written, or a part of them until a
-- write failed; or nothing was: there is no such run, and this is the first choice that is none; or memory was refused.
abbrev pub WroteWords : (World → Decision) → Program → Mode → ℕ → List ℕ → SinkSeen → SinkSeen → Result (Unit {0}) WriteFault → Type 0
WroteWords decide s mode fuel choices old new (Ok u) = (r : Run) × (run_by decide fuel choices (start s mode) ≡ Some r) × Wrote (words_text r.steps) old new
WroteWords decide s mode fuel choices old new (Err (BadChoices place)) = (new ≡ old) × (run_by decide fuel choices (start s mode) ≡ None) × (bad_place decide fuel 0 choices (start s mode) ≡ Some place)
WroteWords decide s mode fuel choices old new (Err (Engine WriteFailed)) = (r : Run) × (run_by decide fuel choices (start s mode) ≡ Some r) × WrotePart (words_text r.steps) old new
WroteWords decide s mode fuel choices old new (Err (Engine Memory)) = new ≡ old
WroteWords decide s mode fuel choices old new (Err (Engine ReadFailed)) = ⊥
WroteWords decide s mode fuel choices old new (Err (Engine TooManyTurns)) = ⊥
