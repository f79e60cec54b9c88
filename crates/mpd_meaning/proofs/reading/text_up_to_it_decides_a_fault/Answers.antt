use Rattle.mpd_meaning.proofs.local.SameTokens.{same_text_fault}
use Rattle.mpd_meaning.proofs.reading.text_up_to_it_decides_a_fault.Goals as goal

pub returns : goal.returns
returns c = same_text_fault c.turns_are_enough.ensures
