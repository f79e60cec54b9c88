use Rattle.mpd_complete.proofs.Runs.{sleeping_walks_run}
use Rattle.mpd_complete.proofs.runs_of_sleeping_walks_are_runs.Goals as goal

pub returns : goal.returns
returns c = λ s mode before u e fuel r k. sleeping_walks_run fuel u r k
