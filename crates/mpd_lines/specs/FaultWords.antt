-- The numbers and names of the engine's faults, and the calls of a device that failed.
use Rattle.std.specs.Prelude.{ℕ, List, Result, Ok, Err, codes}
use Rattle.mpd_lines.specs.declared.engine.EngineFault.{EngineFault}
use Rattle.mpd_lines.specs.declared.engine.EngineFault.TheVariants.{ReadFailed, WriteFailed, TooManyTurns, Memory}

-- the number; want of memory has none
abbrev pub engine_fault_number : EngineFault → ℕ
engine_fault_number ReadFailed = 45
engine_fault_number WriteFailed = 46
engine_fault_number TooManyTurns = 47
engine_fault_number Memory = 0

abbrev pub engine_fault_name : EngineFault → List ℕ
engine_fault_name ReadFailed = codes "read-failed"
engine_fault_name WriteFailed = codes "write-failed"
engine_fault_name TooManyTurns = codes "too-many-turns"
engine_fault_name Memory = codes "memory"

-- how many reads failed, by the engine's fault: the one that it names
abbrev pub reads_failed : EngineFault → ℕ
reads_failed ReadFailed = 1
reads_failed WriteFailed = 0
reads_failed TooManyTurns = 0
reads_failed Memory = 0

-- and how many writes
abbrev pub writes_failed : EngineFault → ℕ
writes_failed ReadFailed = 0
writes_failed WriteFailed = 1
writes_failed TooManyTurns = 0
writes_failed Memory = 0

-- the same, by what is answered
abbrev pub failed_reads : {T : Type 0} → Result T EngineFault → ℕ
failed_reads (Ok x) = 0
failed_reads (Err f) = reads_failed f

abbrev pub failed_writes : {T : Type 0} → Result T EngineFault → ℕ
failed_writes (Ok x) = 0
failed_writes (Err f) = writes_failed f
