use Rattle.mpd_complete.proofs.OfWalks.{walks_complete}
use Rattle.mpd_complete.proofs.whole_walks_are_complete.Goals as goal

pub returns : goal.returns
returns c = walks_complete
