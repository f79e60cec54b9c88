use Rattle.mpd_laws.proofs.complete.Enough.{expr_enough}
use Rattle.mpd_laws.proofs.reading.depth_is_enough.Goals as goal

pub returns : goal.returns
returns c = expr_enough
