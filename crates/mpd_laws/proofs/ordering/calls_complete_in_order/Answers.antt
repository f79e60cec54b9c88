use Rattle.mpd_laws.proofs.ordered.CallsInOrder.{calls_in_order}
use Rattle.mpd_laws.proofs.ordering.calls_complete_in_order.Goals as goal

pub returns : goal.returns
returns c = calls_in_order
