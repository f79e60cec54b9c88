use Rattle.std.proofs.Common.{◌≡◌, ◌==◌, ◌+◌, ◌≤◌, length, drop}
use Rattle.mpd_model.specs.texts.Words.{stop_len}
use Rattle.mpd_witness.proofs.pieces.len_before.Given as goal

abbrev pub invariant-loop-i : goal.invariant-loop-i
invariant-loop-i l = record { value : l.i + stop_len (λ b. b == l.separator) (drop l.i l.text) ≡ stop_len (λ b. b == l.separator) l.text; bound : l.i ≤ length l.text }
