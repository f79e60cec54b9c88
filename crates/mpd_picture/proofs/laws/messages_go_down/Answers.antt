use Rattle.mpd_picture.proofs.RowLemmas.{messages}
use Rattle.mpd_picture.proofs.laws.messages_go_down.Goals as goal

pub returns : goal.returns
returns c = messages
