use Rattle.mpd_adapter.proofs.StayLemmas.{others_stay}
use Rattle.mpd_adapter.proofs.laws.other_breakpoints_stay.Goals as goal

pub returns : goal.returns
returns c d m said e spoken = others_stay d m said e spoken
