use Rattle.mpd_picture.proofs.LawLemmas.{arrows}
use Rattle.mpd_picture.proofs.laws.arrows_are_pairs.Goals as goal

pub returns : goal.returns
returns c = arrows
