use Rattle.std.proofs.Common.{◌≡◌, ◌+◌, ◌≤◌, length, drop}
use Rattle.std.specs.List.{position_or_len}
use Rattle.mpd_trace.specs.Excerpts.{is_feed}
use Rattle.mpd_trace.proofs.excerpts.line_len.Given as goal

abbrev pub invariant-loop-i : goal.invariant-loop-i
invariant-loop-i l = record { value : l.i + position_or_len is_feed (drop l.i l.text) ≡ position_or_len is_feed l.text; bound : l.i ≤ length l.text }
