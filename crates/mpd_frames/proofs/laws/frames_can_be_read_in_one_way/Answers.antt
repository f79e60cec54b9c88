use Rattle.mpd_frames.proofs.FrameLemmas.{one_way}
use Rattle.mpd_frames.proofs.laws.frames_can_be_read_in_one_way.Goals as goal

pub returns : goal.returns
returns c input bodies others rest left f stops g ends = one_way input bodies others rest left f stops g ends
