-- The numbers and names of faults.
use Rattle.std.specs.Prelude.{ℕ, List, codes}
use Rattle.mpd_core.specs.declared.fault.StepFault.{StepFault}
use Rattle.mpd_core.specs.declared.fault.StepFault.TheVariants.{NotEnabled, Memory}

abbrev pub step_fault_number : StepFault → ℕ
step_fault_number NotEnabled = 21
step_fault_number Memory = 23

abbrev pub step_fault_name : StepFault → List ℕ
step_fault_name NotEnabled = codes "not-enabled"
step_fault_name Memory = codes "memory"
