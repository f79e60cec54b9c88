use Rattle.mpd_meaning.proofs.viable.NamesDeclared.{completed_names}
use Rattle.mpd_meaning.proofs.reading.only_what_is_declared_is_named.Goals as goal

pub returns : goal.returns
returns c = completed_names
