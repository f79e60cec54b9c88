use Rattle.std.proofs.Common.{◌≡◌, ◌<◌, ◌^◌, drop}
use Rattle.std.specs.List.{list_all}
use Rattle.std.specs.Char.{is_ascii_digit}
use Rattle.mpd_model.specs.texts.Words.{digits_value}
use Rattle.mpd_vocabulary.proofs.condition.magnitude_of.Given as goal

abbrev pub invariant-loop-byte : goal.invariant-loop-byte
invariant-loop-byte l = record {
  digits : list_all is_ascii_digit (drop l.byte-index l.word) ≡ list_all is_ascii_digit l.word;
  value : digits_value l.value (drop l.byte-index l.word) ≡ digits_value 0 l.word;
  bound : l.value < 10 ^ l.byte-index;
}
