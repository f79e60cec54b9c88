use Rattle.mpd_frames.proofs.FrameLemmas.{frames_on}
use Rattle.mpd_frames.proofs.laws.frames_are_the_same_in_all_pieces.Goals as goal

pub returns : goal.returns
returns c one two first second between rest f g = frames_on one two first second between rest f g
