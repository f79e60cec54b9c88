use Rattle.mpd_adapter.proofs.LawLemmas.{quiet}
use Rattle.mpd_adapter.proofs.laws.looks_change_nothing.Goals as goal

pub returns : goal.returns
returns c d body m frames e is none says = quiet d body m frames e is none says
