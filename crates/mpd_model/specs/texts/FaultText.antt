-- A fault of a text, as it is shown.
use Rattle.std.specs.Prelude.{ℕ, List, ◌++◌, codes}
use Rattle.std.specs.Fmt.{decimal}
use Rattle.mpd_model.specs.declared.read_fault.ReadFault.{ReadFault}
use Rattle.mpd_model.specs.grammar.Faults.{fault_name}

-- its name and its place: `expected at 24`
abbrev pub read_fault_text : ReadFault → List ℕ
read_fault_text f = fault_name f.code ++ codes " at " ++ decimal f.place
