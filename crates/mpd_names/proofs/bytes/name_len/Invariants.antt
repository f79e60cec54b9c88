use Rattle.std.proofs.Common.{◌≡◌, ◌+◌, ◌≤◌, length, drop}
use Rattle.mpd_names.specs.Names.{name_len}
use Rattle.mpd_names.proofs.bytes.name_len.Given as goal

abbrev pub invariant-loop-i : goal.invariant-loop-i
invariant-loop-i l = record { value : l.i + name_len (drop l.i l.word) ≡ name_len l.word; bound : l.i ≤ length l.word }
