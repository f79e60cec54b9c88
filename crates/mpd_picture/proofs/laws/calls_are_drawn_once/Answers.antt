use Rattle.mpd_picture.proofs.LawLemmas.{calls_once}
use Rattle.mpd_picture.proofs.laws.calls_are_drawn_once.Goals as goal

pub returns : goal.returns
returns c = calls_once
