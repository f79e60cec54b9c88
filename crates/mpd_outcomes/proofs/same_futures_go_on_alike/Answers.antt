use Rattle.mpd_outcomes.proofs.Laws.{go_on_alike}
use Rattle.mpd_outcomes.proofs.same_futures_go_on_alike.Goals as goal

pub returns : goal.returns
returns c = go_on_alike
