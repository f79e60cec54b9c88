-- The numbers of why a line is no request; want of memory has none.
use Rattle.std.specs.Prelude.{ℕ}
use Rattle.mpd_wire.specs.declared.fault.WireFault.{WireFault}
use Rattle.mpd_wire.specs.declared.fault.WireFault.TheVariants as wire

abbrev pub wire_fault_number : WireFault → ℕ
wire_fault_number wire.LineTooLong = 41
wire_fault_number wire.NotJson = 42
wire_fault_number wire.BadField = 43
wire_fault_number wire.UnknownCommand = 44
wire_fault_number wire.Memory = 0
