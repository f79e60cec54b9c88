use Rattle.mpd_outcomes.proofs.FutureLemmas.{one_future_one_key}
use Rattle.mpd_outcomes.proofs.key.one_future_has_one_key.Goals as goal

pub returns : goal.returns
returns c = one_future_one_key
