use Rattle.mpd_outcomes.proofs.Laws.{one_walk}
use Rattle.mpd_outcomes.proofs.same_futures_have_one_walk.Goals as goal

pub returns : goal.returns
returns c = one_walk
