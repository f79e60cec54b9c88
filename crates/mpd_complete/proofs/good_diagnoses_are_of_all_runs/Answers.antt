use Rattle.mpd_complete.proofs.DiagnosisLemmas.{good_tells}
use Rattle.mpd_complete.proofs.good_diagnoses_are_of_all_runs.Goals as goal

pub returns : goal.returns
returns c = good_tells
