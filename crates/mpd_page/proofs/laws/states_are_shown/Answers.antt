use Rattle.mpd_page.proofs.LawLemmas.{start_is_shown}
use Rattle.mpd_page.proofs.laws.states_are_shown.Goals as goal

pub returns-clause-first : goal.returns-clause-first
returns-clause-first c = start_is_shown
