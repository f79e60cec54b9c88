use Rattle.mpd_explain.proofs.StepLemmas.{step_placed}
use Rattle.mpd_explain.proofs.laws.placed_steps_are_their_steps.Goals as goal

pub returns : goal.returns
returns c = step_placed
