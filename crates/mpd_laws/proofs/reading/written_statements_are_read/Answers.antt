use Rattle.mpd_laws.proofs.complete.CompleteStatements.{tree_complete, block_complete, body_complete}
use Rattle.mpd_laws.proofs.reading.written_statements_are_read.Goals as goal

pub returns : goal.returns
returns c = (tree_complete, block_complete, body_complete)
