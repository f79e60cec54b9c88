use Rattle.mpd_laws.proofs.complete.CompleteScript.{reading_complete}
use Rattle.mpd_laws.proofs.reading.written_scripts_are_read.Goals as goal

pub returns : goal.returns
returns c = reading_complete
