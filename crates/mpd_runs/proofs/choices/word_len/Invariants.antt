use Rattle.std.proofs.Common.{◌≡◌, ◌==◌, ◌+◌, ◌≤◌, length, drop}
use Rattle.mpd_model.specs.texts.Words.{stop_len}
use Rattle.mpd_runs.proofs.choices.word_len.Given as goal

abbrev pub invariant-loop-i : goal.invariant-loop-i
invariant-loop-i l = record { value : l.i + stop_len (λ b. b == 32) (drop l.i l.text) ≡ stop_len (λ b. b == 32) l.text; bound : l.i ≤ length l.text }
