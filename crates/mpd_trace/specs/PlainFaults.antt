-- The faults of `plain`: what is answered to a script that is refused, and how many calls of a device failed.
use Rattle.std.specs.Prelude.{ℕ, Bool, true, false, if◌then◌else◌, List, ◌++◌, codes, Result, Ok, Err}
use Rattle.std.specs.Fmt.{decimal}
use Rattle.mpd_model.specs.grammar.Faults.{fault_number, fault_name}
use Rattle.mpd_model.specs.declared.read_fault.FaultCode.{FaultCode}
use Rattle.mpd_model.specs.declared.read_fault.FaultCode.TheVariants as code
use Rattle.mpd_model.specs.declared.read_fault.ReadFault.{ReadFault}
use Rattle.mpd_trace.specs.declared.plain_trace.PlainFault.{PlainFault}
use Rattle.mpd_trace.specs.declared.plain_trace.PlainFault.TheVariants.{Script, Engine}
use Rattle.mpd_lines.specs.FaultWords.{reads_failed, writes_failed}
use Rattle.mpd_lines.specs.declared.engine.EngineFault.TheVariants as engine

abbrev pub is_memory : FaultCode → Bool
is_memory code.TooLong = false
is_memory code.NotText = false
is_memory code.BadToken = false
is_memory code.Expected = false
is_memory code.UnknownName = false
is_memory code.Twice = false
is_memory code.TooDeep = false
is_memory code.TooMany = false
is_memory code.BadRanks = false
is_memory code.NotInVersion = false
is_memory code.Memory = true

-- a script that was refused with its fault at this line; want of memory is no fault of the script
abbrev pub refused_as : ReadFault → ℕ → PlainFault
refused_as fault line = if is_memory fault.code then Engine engine.Memory else Script fault line

abbrev pub plain_failed_reads : Result (Unit {0}) PlainFault → ℕ
plain_failed_reads (Ok u) = 0
plain_failed_reads (Err (Script fault line)) = 0
plain_failed_reads (Err (Engine fault)) = reads_failed fault

abbrev pub plain_failed_writes : Result (Unit {0}) PlainFault → ℕ
plain_failed_writes (Ok u) = 0
plain_failed_writes (Err (Script fault line)) = 0
plain_failed_writes (Err (Engine fault)) = writes_failed fault

-- the line on standard error, without its end
abbrev pub fault_line : PlainFault → List ℕ
fault_line (Script fault line) =
    codes "mpdbg: script refused " ++ decimal (fault_number fault.code) ++ codes " " ++ fault_name fault.code ++ codes " at " ++ decimal fault.place ++ codes " line " ++ decimal line
fault_line (Engine engine.ReadFailed) = codes "mpdbg: device"
fault_line (Engine engine.WriteFailed) = codes "mpdbg: device"
fault_line (Engine engine.TooManyTurns) = codes "mpdbg: turns"
fault_line (Engine engine.Memory) = codes "mpdbg: memory"

-- the status that the program ends with
abbrev pub fault_status : PlainFault → ℕ
fault_status (Script fault line) = 2
fault_status (Engine fault) = 3
