use Rattle.mpd_laws.proofs.sound.SoundStatements.{statements_written}
use Rattle.mpd_laws.proofs.reading.statements_are_written.Goals as goal

pub returns : goal.returns
returns c = statements_written
