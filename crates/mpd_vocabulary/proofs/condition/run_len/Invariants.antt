use Rattle.std.proofs.Common.{◌≡◌, ◌+◌, ◌≤◌, length, drop}
use Rattle.mpd_model.specs.texts.Words.{stop_len}
use Rattle.mpd_vocabulary.specs.Conditions.{is_other}
use Rattle.mpd_vocabulary.proofs.condition.run_len.Given as goal

abbrev pub invariant-loop-i : goal.invariant-loop-i
invariant-loop-i l = record { value : l.i + stop_len (is_other l.sign) (drop l.i l.text) ≡ stop_len (is_other l.sign) l.text; bound : l.i ≤ length l.text }
