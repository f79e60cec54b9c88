use Rattle.std.proofs.Common.{◌≡◌, ◌≤◌, ◌+◌, false, [], drop}
use Rattle.mpd_trace.specs.Hints.{still_open}
use Rattle.mpd_trace.proofs.hints.still_open.Given as goal

abbrev pub invariant-loop-byte : goal.invariant-loop-byte
invariant-loop-byte l = (still_open l.is_comment l.line l.lines.items (drop l.byte-index l.text) ≡ still_open false 1 [] l.text) × (l.line ≤ l.byte-index + 1)
