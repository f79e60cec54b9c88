use Rattle.mpd_witness.proofs.WholeReport.{leaf_is_read}
use Rattle.mpd_witness.proofs.laws.written_witness_of_a_leaf_is_read.Goals as goal

pub returns : goal.returns
returns c = leaf_is_read
