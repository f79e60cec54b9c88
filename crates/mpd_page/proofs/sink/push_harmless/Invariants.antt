use Rattle.std.proofs.Common.{◌≡◌, ◌++◌, drop}
use Rattle.std.specs.List.{flat_map}
use Rattle.mpd_page.specs.Markup.{harmless_byte}
use Rattle.mpd_page.proofs.sink.push_harmless.Given as goal

abbrev pub invariant-loop-byte : goal.invariant-loop-byte
invariant-loop-byte l = l.out.items ++ flat_map harmless_byte (drop l.byte-index l.text) ≡ l.fn.out.items ++ flat_map harmless_byte l.text
