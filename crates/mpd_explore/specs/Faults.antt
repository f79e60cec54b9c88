-- The numbers and names of what is wrong with a witness.
use Rattle.std.specs.Prelude.{ℕ, List, codes}
use Rattle.mpd_explore.specs.declared.verifier.WitnessFault.{WitnessFault}
use Rattle.mpd_explore.specs.declared.verifier.WitnessFault.TheVariants.{NoSuchStep, NotStuck, WrongBlocked, Memory}

abbrev pub witness_fault_number : WitnessFault → ℕ
witness_fault_number (NoSuchStep place) = 32
witness_fault_number NotStuck = 33
witness_fault_number WrongBlocked = 34
witness_fault_number Memory = 0

abbrev pub witness_fault_name : WitnessFault → List ℕ
witness_fault_name (NoSuchStep place) = codes "no-such-step"
witness_fault_name NotStuck = codes "not-stuck"
witness_fault_name WrongBlocked = codes "wrong-blocked"
witness_fault_name Memory = codes "memory"
