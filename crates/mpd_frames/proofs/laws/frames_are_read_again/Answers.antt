use Rattle.mpd_frames.proofs.AgainLemmas.{read_again}
use Rattle.mpd_frames.proofs.laws.frames_are_read_again.Goals as goal

pub returns : goal.returns
returns c body rest most = read_again body rest most
