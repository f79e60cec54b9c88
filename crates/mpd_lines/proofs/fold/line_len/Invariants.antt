use Rattle.std.proofs.Common.{◌≡◌, ◌+◌, ◌≤◌, length, drop}
use Rattle.mpd_lines.specs.Folding.{line_len}
use Rattle.mpd_lines.proofs.fold.line_len.Given as goal

abbrev pub invariant-loop-i : goal.invariant-loop-i
invariant-loop-i l = record { value : l.i + line_len (drop l.i l.text) ≡ line_len l.text; bound : l.i ≤ length l.text }
