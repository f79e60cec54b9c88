use Rattle.mpd_laws.proofs.buffered.SlotsHeld.{never_exceeded}
use Rattle.mpd_laws.proofs.buffers.slots_are_never_exceeded.Goals as goal

pub returns : goal.returns
returns c = never_exceeded
