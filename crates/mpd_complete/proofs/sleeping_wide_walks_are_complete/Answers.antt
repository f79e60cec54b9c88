use Rattle.mpd_complete.proofs.Complete.{sleeping_complete}
use Rattle.mpd_complete.proofs.sleeping_wide_walks_are_complete.Goals as goal

pub returns : goal.returns
returns c = sleeping_complete
