use Rattle.mpd_laws.proofs.buffered.SendsDone.{done_by_match_or_mode}
use Rattle.mpd_laws.proofs.buffers.sends_are_done_by_match_or_mode.Goals as goal

pub returns : goal.returns
returns c = done_by_match_or_mode
