use Rattle.mpd_adapter.proofs.LawLemmas.{answered}
use Rattle.mpd_adapter.proofs.laws.one_response_comes_first.Goals as goal

pub returns : goal.returns
returns c d body m frames e is says = answered d body m frames e is says
