use Rattle.mpd_console.proofs.LawLemmas.{back_and_on}
use Rattle.mpd_console.proofs.laws.runs_back_and_on_agree.Goals as goal

pub returns-clause-again : goal.returns-clause-again
returns-clause-again c = back_and_on
