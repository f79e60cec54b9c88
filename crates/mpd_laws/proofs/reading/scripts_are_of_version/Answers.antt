use Rattle.mpd_laws.proofs.sound.ReadVersions.{scripts_of_version}
use Rattle.mpd_laws.proofs.reading.scripts_are_of_version.Goals as goal

pub returns : goal.returns
returns c = scripts_of_version
