use Rattle.mpd_complete.proofs.FailingLemmas.{blames_tell}
use Rattle.mpd_complete.proofs.blames_are_of_all_runs.Goals as goal

pub returns : goal.returns
returns c = blames_tell
