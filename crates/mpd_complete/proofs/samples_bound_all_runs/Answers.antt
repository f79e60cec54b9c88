use Rattle.mpd_complete.proofs.Reports.{drawn_bound_all_runs}
use Rattle.mpd_complete.proofs.samples_bound_all_runs.Goals as goal

pub returns : goal.returns
returns c = drawn_bound_all_runs
