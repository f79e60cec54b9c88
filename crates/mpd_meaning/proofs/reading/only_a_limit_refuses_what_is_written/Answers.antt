use Rattle.mpd_meaning.proofs.limited.LimitedLaws.{only_a_limit_refuses}
use Rattle.mpd_meaning.proofs.reading.only_a_limit_refuses_what_is_written.Goals as goal

pub returns : goal.returns
returns c = only_a_limit_refuses
