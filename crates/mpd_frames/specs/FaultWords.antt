-- The names of what ends a session of frames, and the calls of a device that failed.
use Rattle.std.specs.Prelude.{ℕ, List, Result, Ok, Err, codes}
use Rattle.mpd_lines.specs.FaultWords.{engine_fault_name, reads_failed, writes_failed}
use Rattle.mpd_frames.specs.declared.fault.StreamFault.{StreamFault}
use Rattle.mpd_frames.specs.declared.fault.StreamFault.TheVariants.{Engine, Frame, CutOff, BodyMemory}

abbrev pub stream_fault_name : StreamFault → List ℕ
stream_fault_name (Engine fault) = engine_fault_name fault
stream_fault_name (Frame fault) = codes "frame"
stream_fault_name CutOff = codes "cut-off"
stream_fault_name BodyMemory = codes "memory"

-- how many reads failed, by what is answered: the one that it names
abbrev pub failed_reads : {T : Type 0} → Result T StreamFault → ℕ
failed_reads (Ok x) = 0
failed_reads (Err (Engine fault)) = reads_failed fault
failed_reads (Err (Frame fault)) = 0
failed_reads (Err CutOff) = 0
failed_reads (Err BodyMemory) = 0

-- and how many writes
abbrev pub failed_writes : {T : Type 0} → Result T StreamFault → ℕ
failed_writes (Ok x) = 0
failed_writes (Err (Engine fault)) = writes_failed fault
failed_writes (Err (Frame fault)) = 0
failed_writes (Err CutOff) = 0
failed_writes (Err BodyMemory) = 0
