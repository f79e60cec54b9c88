use Rattle.mpd_laws.proofs.sound.ReadVersions.{statements_of_version}
use Rattle.mpd_laws.proofs.reading.statements_are_of_version.Goals as goal

pub returns : goal.returns
returns c = statements_of_version
