use Rattle.mpd_laws.proofs.complete.Turns.{stmts_enough, decls_enough}
use Rattle.mpd_laws.proofs.reading.turns_are_enough.Goals as goal

pub returns : goal.returns
returns c = (stmts_enough, decls_enough)
