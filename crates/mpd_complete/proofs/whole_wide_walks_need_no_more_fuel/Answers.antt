use Rattle.mpd_complete.proofs.Fuel.{same_wide_walk}
use Rattle.mpd_complete.proofs.whole_wide_walks_need_no_more_fuel.Goals as goal

pub returns : goal.returns
returns c = same_wide_walk
