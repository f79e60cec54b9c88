use Rattle.mpd_laws.proofs.ordered.Eligible.{one_send}
use Rattle.mpd_laws.proofs.ordering.one_send_is_eligible.Goals as goal

pub returns : goal.returns
returns c = one_send
