use Rattle.mpd_check.proofs.CheckLemmas.{same_start}
use Rattle.mpd_check.proofs.part.list_from_start.Goals as goal

pub returns : goal.returns
returns g c = same_start c.args.wanted.telling _ _ _ _ _ _ c.in-Ok.ensures.standing c.list_number.ensures
