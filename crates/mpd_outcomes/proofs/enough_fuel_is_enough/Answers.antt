use Rattle.mpd_outcomes.proofs.Heights.{enough_for}
use Rattle.mpd_outcomes.proofs.enough_fuel_is_enough.Goals as goal

pub returns : goal.returns
returns c = λ fuel more w low enough. enough_for fuel more w low enough
