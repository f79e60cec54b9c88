use Rattle.mpd_meaning.proofs.listed.Listed.{listed_exactly}
use Rattle.mpd_meaning.proofs.steps.every_step_that_leads_on_is_listed.Goals as goal

pub returns : goal.returns
returns c = listed_exactly
