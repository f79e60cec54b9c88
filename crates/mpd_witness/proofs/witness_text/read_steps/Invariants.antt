use Rattle.std.proofs.Common.{◌≡◌, length}
use Rattle.mpd_model.specs.texts.Words.{step_of}
use Rattle.mpd_witness.specs.WitnessText.{steps_of, each_read}
use Rattle.mpd_witness.proofs.TextLemmas.{joined_to}
use Rattle.mpd_witness.proofs.witness_text.read_steps.Given as goal

abbrev pub invariant-loop-piece : goal.invariant-loop-piece
invariant-loop-piece l = steps_of l.line ≡ joined_to l.items.items (each_read step_of l.pieces)

abbrev pub decreases-loop-piece : goal.decreases-loop-piece
decreases-loop-piece l = length l.pieces
