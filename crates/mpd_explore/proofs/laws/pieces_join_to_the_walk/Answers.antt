use Rattle.mpd_explore.proofs.PieceLemmas.{pieces_join}
use Rattle.mpd_explore.proofs.laws.pieces_join_to_the_walk.Goals as goal

pub returns : goal.returns
returns c = pieces_join
