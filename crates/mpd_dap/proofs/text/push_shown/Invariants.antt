use Rattle.std.proofs.Common.{◌≡◌, ◌++◌, drop, map, string_bytes}
use Rattle.mpd_dap.specs.Shown.{shown_byte}
use Rattle.mpd_dap.proofs.text.push_shown.Given as goal

abbrev pub invariant-loop-byte : goal.invariant-loop-byte
invariant-loop-byte l = string_bytes l.out ++ map shown_byte (drop l.byte-index l.bytes) ≡ string_bytes l.fn.out ++ map shown_byte l.bytes
