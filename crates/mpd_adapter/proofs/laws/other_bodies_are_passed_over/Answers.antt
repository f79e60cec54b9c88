use Rattle.mpd_adapter.proofs.LawLemmas.{passed}
use Rattle.mpd_adapter.proofs.laws.other_bodies_are_passed_over.Goals as goal

pub returns : goal.returns
returns c d body frames e none says = passed d body frames e none says
