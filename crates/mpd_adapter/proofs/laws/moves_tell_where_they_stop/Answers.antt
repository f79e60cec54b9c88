use Rattle.mpd_adapter.proofs.LawLemmas.{stops}
use Rattle.mpd_adapter.proofs.laws.moves_tell_where_they_stop.Goals as goal

pub returns : goal.returns
returns c d body m asked frames e is moves says = stops d body m asked frames e is moves says
