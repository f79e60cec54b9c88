use Rattle.mpd_laws.proofs.buffered.SlotsHeld.{none_in_rendezvous}
use Rattle.mpd_laws.proofs.buffers.no_slot_is_held_in_rendezvous.Goals as goal

pub returns : goal.returns
returns c = none_in_rendezvous
