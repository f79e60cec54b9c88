use Rattle.std.proofs.Common.{◌≡◌, ◌≤◌, take, reverse}
use Rattle.std.specs.List.{position_or_len}
use Rattle.mpd_trace.specs.Excerpts.{is_feed}
use Rattle.mpd_trace.proofs.excerpts.column.Given as goal

abbrev pub invariant-loop-byte : goal.invariant-loop-byte
invariant-loop-byte l = record {
  value : l.count ≡ position_or_len is_feed (reverse (take l.byte-index l.text));
  bound : l.count ≤ l.byte-index;
}
