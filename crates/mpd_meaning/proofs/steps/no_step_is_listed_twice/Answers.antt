use Rattle.mpd_meaning.proofs.listed.Twice.{listed_once}
use Rattle.mpd_meaning.proofs.steps.no_step_is_listed_twice.Goals as goal

pub returns : goal.returns
returns c = listed_once
