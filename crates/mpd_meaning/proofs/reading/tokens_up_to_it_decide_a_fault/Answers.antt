use Rattle.mpd_meaning.proofs.local.SameFault.{same_fault}
use Rattle.mpd_meaning.proofs.reading.tokens_up_to_it_decide_a_fault.Goals as goal

pub returns : goal.returns
returns c = same_fault c.turns_are_enough.ensures
