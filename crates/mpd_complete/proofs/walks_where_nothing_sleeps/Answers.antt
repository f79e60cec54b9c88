use Rattle.mpd_explore.proofs.AwakeLemmas.{nothing_sleeps}
use Rattle.mpd_complete.proofs.walks_where_nothing_sleeps.Goals as goal

pub returns : goal.returns
returns c = nothing_sleeps
