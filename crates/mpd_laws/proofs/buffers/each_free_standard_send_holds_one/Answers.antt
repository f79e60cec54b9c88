use Rattle.mpd_laws.proofs.buffered.SlotsHeld.{each_free_holds_one}
use Rattle.mpd_laws.proofs.buffers.each_free_standard_send_holds_one.Goals as goal

pub returns : goal.returns
returns c = each_free_holds_one
