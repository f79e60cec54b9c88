use Rattle.mpd_meaning.proofs.listed.Listed.{ended_so}
use Rattle.mpd_meaning.proofs.steps.a_run_has_ended_where_no_step_leads_on.Goals as goal

pub returns : goal.returns
returns c = ended_so
