use Rattle.mpd_explore.proofs.VerifyLemmas.{deadlock_has}
use Rattle.mpd_explore.proofs.laws.a_deadlock_has_a_witness.Goals as goal

pub returns : goal.returns
returns c = deadlock_has
