use Rattle.mpd_complete.proofs.Complete.{nothing_sleeps}
use Rattle.mpd_complete.proofs.wide_walks_where_nothing_sleeps.Goals as goal

pub returns : goal.returns
returns c = nothing_sleeps
