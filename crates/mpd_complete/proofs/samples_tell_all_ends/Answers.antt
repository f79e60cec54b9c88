use Rattle.mpd_complete.proofs.ToldLemmas.{samples_tell}
use Rattle.mpd_complete.proofs.samples_tell_all_ends.Goals as goal

pub returns : goal.returns
returns c = samples_tell
