use Rattle.mpd_complete.proofs.PictureLemmas.{drawn_few}
use Rattle.mpd_complete.proofs.drawn_runs_are_few.Goals as goal

pub returns : goal.returns
returns c = drawn_few
