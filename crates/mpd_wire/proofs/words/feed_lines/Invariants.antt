use Rattle.std.proofs.Common.{◌≡◌, ◌++◌, length, map, string_bytes}
use denote.Shadow.{shadow}
use denote.Text.{Utf8}
use Rattle.mpd_wire.specs.Words.{feed_lines}
use Rattle.mpd_wire.proofs.words.feed_lines.Given as goal

abbrev pub invariant-loop-line : goal.invariant-loop-line
invariant-loop-line l = record {
  gathered : map string_bytes l.items.items ++ feed_lines l.rest ≡ feed_lines l.text;
  is_text : shadow (Utf8 l.rest);
}

abbrev pub decreases-loop-line : goal.decreases-loop-line
decreases-loop-line l = length l.rest
