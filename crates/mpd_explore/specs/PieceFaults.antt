-- The number and the name of why a script is not split.
use Rattle.std.specs.Prelude.{ℕ, List, codes}
use Rattle.mpd_explore.specs.declared.splitter.SplitFault.{SplitFault}
use Rattle.mpd_explore.specs.declared.splitter.SplitFault.TheVariants.{TooManyPieces, Memory}

abbrev pub split_fault_number : SplitFault → ℕ
split_fault_number TooManyPieces = 31
split_fault_number Memory = 0

abbrev pub split_fault_name : SplitFault → List ℕ
split_fault_name TooManyPieces = codes "too-many-pieces"
split_fault_name Memory = codes "memory"
