use Rattle.mpd_explore.proofs.PieceLemmas.{no_more}
use Rattle.mpd_explore.proofs.laws.no_more_is_the_whole.Goals as goal

pub returns : goal.returns
returns c = no_more
