use Rattle.mpd_picture.proofs.RowLemmas.{lanes}
use Rattle.mpd_picture.proofs.laws.lanes_go_down.Goals as goal

pub returns : goal.returns
returns c = lanes
