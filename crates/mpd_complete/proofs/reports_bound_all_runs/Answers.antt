use Rattle.mpd_complete.proofs.Reports.{bound_all_runs}
use Rattle.mpd_complete.proofs.reports_bound_all_runs.Goals as goal

pub returns : goal.returns
returns c = bound_all_runs
