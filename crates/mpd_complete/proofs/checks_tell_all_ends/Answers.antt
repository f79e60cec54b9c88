use Rattle.mpd_complete.proofs.ToldLemmas.{checks_tell}
use Rattle.mpd_complete.proofs.checks_tell_all_ends.Goals as goal

pub returns : goal.returns
returns c = checks_tell
