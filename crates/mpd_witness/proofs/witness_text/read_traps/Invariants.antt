use Rattle.std.proofs.Common.{◌≡◌, length}
use Rattle.mpd_witness.specs.WitnessText.{rank_trap_of, pairs_read}
use Rattle.mpd_witness.proofs.TextLemmas.{joined_to}
use Rattle.mpd_witness.proofs.witness_text.read_traps.Given as goal

abbrev pub invariant-loop-rank : goal.invariant-loop-rank
invariant-loop-rank l = pairs_read rank_trap_of l.fn.pieces ≡ joined_to l.items.items (pairs_read rank_trap_of l.pieces)

abbrev pub decreases-loop-rank : goal.decreases-loop-rank
decreases-loop-rank l = length l.pieces
