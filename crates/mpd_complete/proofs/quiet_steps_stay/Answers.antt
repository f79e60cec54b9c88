use Rattle.mpd_complete.proofs.Quiet.{stay}
use Rattle.mpd_complete.proofs.quiet_steps_stay.Goals as goal

pub returns : goal.returns
returns c = stay
