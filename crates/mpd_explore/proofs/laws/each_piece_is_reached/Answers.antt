use Rattle.mpd_explore.specs.Sleeping.{decides_by}
use Rattle.mpd_explore.proofs.PieceLemmas.{pieces_reached}
use Rattle.mpd_explore.proofs.laws.each_piece_is_reached.Goals as goal

pub returns : goal.returns
returns c = λ k l w. pieces_reached (decides_by l.ends) k l.fuel w
