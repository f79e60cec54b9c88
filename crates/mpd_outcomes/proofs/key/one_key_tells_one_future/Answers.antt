use Rattle.mpd_outcomes.proofs.KeyLemmas.{one_key_one_future}
use Rattle.mpd_outcomes.proofs.key.one_key_tells_one_future.Goals as goal

pub returns : goal.returns
returns c = one_key_one_future
