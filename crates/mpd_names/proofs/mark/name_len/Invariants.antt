use Rattle.std.proofs.Common.{◌≡◌, ◌+◌, ◌≤◌, length, drop}
use Rattle.std.specs.List.{prefix_len}
use Rattle.mpd_names.specs.Marks.{is_named}
use Rattle.mpd_names.proofs.mark.name_len.Given as goal

abbrev pub invariant-loop-i : goal.invariant-loop-i
invariant-loop-i l = record { value : l.i + prefix_len is_named (drop l.i l.text) ≡ prefix_len is_named l.text; bound : l.i ≤ length l.text }
