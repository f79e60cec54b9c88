use Rattle.mpd_explore.proofs.PieceLemmas.{no_choice}
use Rattle.mpd_explore.proofs.laws.no_choice_is_the_whole.Goals as goal

pub returns : goal.returns
returns c = no_choice
