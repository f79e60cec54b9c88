use Rattle.std.proofs.Common.{◌≡◌, ◌+◌, ◌≤◌, length, drop}
use Rattle.std.specs.List.{prefix_len}
use Rattle.std.specs.Char.{is_ascii_graphic}
use Rattle.mpd_names.proofs.mark.place_len.Given as goal

abbrev pub invariant-loop-i : goal.invariant-loop-i
invariant-loop-i l = record { value : l.i + prefix_len is_ascii_graphic (drop l.i l.text) ≡ prefix_len is_ascii_graphic l.text; bound : l.i ≤ length l.text }
