use Rattle.mpd_complete.proofs.Complete.{complete}
use Rattle.mpd_complete.proofs.wide_walks_are_complete.Goals as goal

pub returns : goal.returns
returns c = complete
