use Rattle.std.proofs.Common.{◌≡◌, ◌-◌}
use Rattle.mpd_model.specs.texts.Words.{words}
use Rattle.mpd_vocabulary.specs.Faults.{word_at}
use Rattle.mpd_vocabulary.proofs.faults.word_at.Given as goal

abbrev pub invariant-loop-skipped : goal.invariant-loop-skipped
invariant-loop-skipped l = word_at (words l.rest) (l.number - l.skipped) ≡ word_at (words l.line) l.number
