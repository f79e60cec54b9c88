use Rattle.mpd_complete.proofs.Quiet.{come_first}
use Rattle.mpd_complete.proofs.quiet_steps_come_first.Goals as goal

pub returns : goal.returns
returns c = come_first
