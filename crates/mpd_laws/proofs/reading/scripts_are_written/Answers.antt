use Rattle.mpd_laws.proofs.sound.SoundScript.{reading_written}
use Rattle.mpd_laws.proofs.reading.scripts_are_written.Goals as goal

pub returns : goal.returns
returns c = reading_written
