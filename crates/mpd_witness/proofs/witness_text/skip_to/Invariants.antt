use Rattle.std.proofs.Common.{◌≡◌, length}
use Rattle.mpd_witness.specs.WitnessText.{behind_word}
use Rattle.mpd_witness.proofs.witness_text.skip_to.Given as goal

abbrev pub invariant-loop-piece : goal.invariant-loop-piece
invariant-loop-piece l = behind_word l.word l.fn.pieces ≡ behind_word l.word l.pieces

abbrev pub decreases-loop-piece : goal.decreases-loop-piece
decreases-loop-piece l = length l.pieces
