use Rattle.mpd_laws.proofs.sound.Sound.{expr_sound}
use Rattle.mpd_laws.proofs.reading.expressions_are_written.Goals as goal

pub returns : goal.returns
returns c = expr_sound
