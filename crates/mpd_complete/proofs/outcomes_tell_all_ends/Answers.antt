use Rattle.mpd_complete.proofs.OutcomesLemmas.{outcomes_tell}
use Rattle.mpd_complete.proofs.outcomes_tell_all_ends.Goals as goal

pub returns : goal.returns
returns c = outcomes_tell
