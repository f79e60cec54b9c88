use Rattle.mpd_complete.proofs.OfWalks.{sleeping_walks_complete}
use Rattle.mpd_complete.proofs.sleeping_walks_are_complete.Goals as goal

pub returns : goal.returns
returns c = sleeping_walks_complete
