use Rattle.std.proofs.Common.{◌≡◌, ◌+◌, ◌≤◌, length, drop}
use Rattle.mpd_model.specs.texts.Words.{is_blank, stop_len}
use Rattle.mpd_model.proofs.words.word_len.Given as goal

abbrev pub invariant-loop-i : goal.invariant-loop-i
invariant-loop-i l = record { value : l.i + stop_len is_blank (drop l.i l.text) ≡ stop_len is_blank l.text; bound : l.i ≤ length l.text }
