-- The script of a file, and its code.
use Rattle.std.specs.Prelude.{◌≡◌, ◌≢◌, ℕ, ◌+◌, ◌⊎◌, List, [], ◌++◌, Ok, Err}
use Rattle.mpd_model.specs.devices.Seen.{SourceSeen}
use Rattle.mpd_model.specs.declared.limits.TheConstants.{SCRIPT_MAX}
use Rattle.mpd_model.specs.grammar.Grammar.{reading}
use Rattle.mpd_model.specs.script.Program.{Program}
use Rattle.mpd_model.specs.declared.read_fault.ReadFault.{ReadFault}
use Rattle.mpd_model.specs.declared.read_fault.FaultCode.TheVariants as code
use Rattle.mpd_lines.specs.declared.engine.EngineFault.TheVariants.{ReadFailed, WriteFailed, TooManyTurns, Memory}
use Rattle.mpd_lines.specs.UpTo.{IsRead, IsUnread}
use Rattle.mpd_trace.specs.Plain.{line_at}
use Rattle.mpd_trace.specs.declared.plain_trace.PlainFault.{PlainFault}
use Rattle.mpd_trace.specs.declared.plain_trace.PlainFault.TheVariants.{Script, Engine}

-- whatever follows the text (nothing, where the input has ended), it is refused so
abbrev pub IsRefusedText : SourceSeen → SourceSeen → List ℕ → ReadFault → ℕ → Type 0
IsRefusedText s t text fault line =
    (z : List ℕ) → (t.ends ≡ s.ends) ⊎ (z ≡ []) → (reading (text ++ z) ≡ Err fault) × (line ≡ line_at (text ++ z) fault.place)

-- the text was read to its end, and is that of this script
abbrev pub IsScriptOf : SourceSeen → SourceSeen → List ℕ → Program → Type 0
IsScriptOf s t text program = IsRead SCRIPT_MAX s t text × (t.ends ≡ s.ends + 1) × (reading text ≡ Ok program)

-- why there is no script, or no code: the text that was read is refused, a read failed, or memory was refused
abbrev pub IsNoCode : SourceSeen → SourceSeen → List ℕ → PlainFault → Type 0
IsNoCode s t text (Script fault line) = IsRead SCRIPT_MAX s t text × (fault.code ≢ code.Memory) × IsRefusedText s t text fault line
IsNoCode s t text (Engine ReadFailed) = IsUnread SCRIPT_MAX s t ReadFailed
IsNoCode s t text (Engine WriteFailed) = ⊥
IsNoCode s t text (Engine TooManyTurns) = ⊥
IsNoCode s t text (Engine Memory) = t.failures ≡ s.failures
