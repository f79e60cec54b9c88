use Rattle.mpd_complete.proofs.IsSleepingWalk.{are_sleeping_walks}
use Rattle.mpd_complete.proofs.sleeping_wide_walks_are_sleeping_walks.Goals as goal

pub returns : goal.returns
returns c = are_sleeping_walks
