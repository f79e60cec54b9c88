use Rattle.mpd_complete.proofs.ToldLemmas.{consoles_see}
use Rattle.mpd_complete.proofs.consoles_see_all_ends.Goals as goal

pub returns : goal.returns
returns c = consoles_see
