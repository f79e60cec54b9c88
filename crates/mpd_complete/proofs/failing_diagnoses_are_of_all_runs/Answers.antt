use Rattle.mpd_complete.proofs.FailingLemmas.{failing_tells}
use Rattle.mpd_complete.proofs.failing_diagnoses_are_of_all_runs.Goals as goal

pub returns : goal.returns
returns c = failing_tells
