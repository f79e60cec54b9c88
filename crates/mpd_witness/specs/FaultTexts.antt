-- Why there is no witness, as it is shown.
use Rattle.std.specs.Prelude.{ℕ, List, ◌++◌, codes}
use Rattle.std.specs.Fmt.{decimal}
use Rattle.mpd_lines.specs.FaultWords.{engine_fault_name}
use Rattle.mpd_witness.specs.declared.witness_text.WitnessTextFault.{WitnessTextFault}
use Rattle.mpd_witness.specs.declared.witness_text.WitnessTextFault.TheVariants as text
use Rattle.mpd_witness.specs.declared.report_text.ReportFault.{ReportFault}
use Rattle.mpd_witness.specs.declared.report_text.ReportFault.TheVariants.{BadLine, NoWitness, SeveralWitnesses, NoSuchLeaf, NoDeadlock, Engine}

abbrev pub text_fault_shown : WitnessTextFault → List ℕ
text_fault_shown (text.BadLine n) = codes "line " ++ decimal n
text_fault_shown text.Memory = codes "memory"

abbrev pub report_fault_shown : ReportFault → List ℕ
report_fault_shown (BadLine n) = codes "line " ++ decimal n
report_fault_shown NoWitness = codes "no-witness"
report_fault_shown SeveralWitnesses = codes "several-witnesses"
report_fault_shown NoSuchLeaf = codes "no-such-leaf"
report_fault_shown NoDeadlock = codes "no-deadlock"
report_fault_shown (Engine e) = engine_fault_name e
