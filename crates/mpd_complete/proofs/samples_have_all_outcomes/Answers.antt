use Rattle.mpd_complete.proofs.Reports.{drawn_have_all_outcomes}
use Rattle.mpd_complete.proofs.samples_have_all_outcomes.Goals as goal

pub returns : goal.returns
returns c = drawn_have_all_outcomes
