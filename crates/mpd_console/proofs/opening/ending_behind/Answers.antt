use Rattle.mpd_console.proofs.OpeningLemmas.{few_behind}
use Rattle.mpd_console.proofs.opening.ending_behind.Goals as goal

pub returns-in-Ok-clause-few : goal.returns-in-Ok-clause-few
returns-in-Ok-clause-few c = few_behind _ _ _ c.state_is_reached.ensures.reached c.in_ok-take_steps.ensures.taken
