use Rattle.mpd_meaning.proofs.listed.Reached.{reached_has}
use Rattle.mpd_meaning.proofs.steps.reached_worlds_have_calls.Goals as goal

pub returns : goal.returns
returns c = reached_has
