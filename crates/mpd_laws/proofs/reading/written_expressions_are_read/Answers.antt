use Rattle.mpd_laws.proofs.complete.Complete.{expr_complete}
use Rattle.mpd_laws.proofs.reading.written_expressions_are_read.Goals as goal

pub returns : goal.returns
returns c = expr_complete
