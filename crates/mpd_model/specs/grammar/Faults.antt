-- Faults of a text, with their numbers, names and byte places.
use Rattle.std.specs.Prelude.{ℕ, List, codes}
use Rattle.mpd_model.specs.declared.read_fault.FaultCode.{FaultCode}
use Rattle.mpd_model.specs.declared.read_fault.FaultCode.TheVariants.{TooLong, NotText, BadToken, Expected, UnknownName, Twice, TooDeep, TooMany, BadRanks, NotInVersion, Memory}
use Rattle.mpd_model.specs.declared.read_fault.ReadFault.{ReadFault}

abbrev pub fault : FaultCode → ℕ → ReadFault
fault c p = record { code = c; place = p }

abbrev pub memory : ReadFault
memory = fault Memory 0

abbrev pub fault_number : FaultCode → ℕ
fault_number TooLong = 1
fault_number NotText = 2
fault_number BadToken = 3
fault_number Expected = 4
fault_number UnknownName = 5
fault_number Twice = 6
fault_number TooDeep = 7
fault_number TooMany = 8
fault_number BadRanks = 9
fault_number NotInVersion = 10
fault_number Memory = 11

abbrev pub fault_name : FaultCode → List ℕ
fault_name TooLong = codes "too-long"
fault_name NotText = codes "not-text"
fault_name BadToken = codes "bad-token"
fault_name Expected = codes "expected"
fault_name UnknownName = codes "unknown-name"
fault_name Twice = codes "twice"
fault_name TooDeep = codes "too-deep"
fault_name TooMany = codes "too-many"
fault_name BadRanks = codes "bad-ranks"
fault_name NotInVersion = codes "not-in-version"
fault_name Memory = codes "memory"
