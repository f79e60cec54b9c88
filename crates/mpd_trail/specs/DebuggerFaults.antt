-- The numbers and names of faults.
use Rattle.std.specs.Prelude.{ℕ, List, codes}
use Rattle.mpd_core.specs.declared.fault.StepFault.{StepFault}
use Rattle.mpd_core.specs.declared.fault.StepFault.TheVariants as step
use Rattle.mpd_trail.specs.declared.debugger.ApplyFault.{ApplyFault}
use Rattle.mpd_trail.specs.declared.debugger.ApplyFault.TheVariants.{NotEnabled, Full, Memory}
use Rattle.mpd_trail.specs.declared.debugger.RedoFault.{RedoFault}
use Rattle.mpd_trail.specs.declared.debugger.RedoFault.TheVariants as redo

abbrev pub apply_fault_number : ApplyFault → ℕ
apply_fault_number NotEnabled = 21
apply_fault_number Full = 22
apply_fault_number Memory = 23

abbrev pub apply_fault_name : ApplyFault → List ℕ
apply_fault_name NotEnabled = codes "not-enabled"
apply_fault_name Full = codes "full"
apply_fault_name Memory = codes "memory"

-- what the refusal of a core is to a debugger
abbrev pub apply_fault : StepFault → ApplyFault
apply_fault step.NotEnabled = NotEnabled
apply_fault step.Memory = Memory

abbrev pub redo_fault_number : RedoFault → ℕ
redo_fault_number redo.NoRedo = 25
redo_fault_number redo.Memory = 23

abbrev pub redo_fault_name : RedoFault → List ℕ
redo_fault_name redo.NoRedo = codes "no-redo"
redo_fault_name redo.Memory = codes "memory"

abbrev pub at_start_name : List ℕ
at_start_name = codes "at-start"

abbrev pub not_before_name : List ℕ
not_before_name = codes "not-before"
