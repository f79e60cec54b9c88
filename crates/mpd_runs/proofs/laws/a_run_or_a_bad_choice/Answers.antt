use Rattle.mpd_runs.proofs.AlongLemmas.{runs_or_bad}
use Rattle.mpd_runs.proofs.laws.a_run_or_a_bad_choice.Goals as goal

pub returns : goal.returns
returns c = runs_or_bad
