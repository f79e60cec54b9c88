use Rattle.mpd_complete.proofs.IsWalk.{are_walks}
use Rattle.mpd_complete.proofs.wide_walks_are_walks.Goals as goal

pub returns : goal.returns
returns c = are_walks
