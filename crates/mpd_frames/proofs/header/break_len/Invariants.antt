use Rattle.std.proofs.Common.{◌≡◌, ◌+◌, drop}
use Rattle.mpd_frames.specs.Scanning.{break_len}
use Rattle.mpd_frames.proofs.header.break_len.Given as goal

abbrev pub invariant-loop-i : goal.invariant-loop-i
invariant-loop-i l = l.i + break_len (drop l.i l.text) ≡ break_len l.text
