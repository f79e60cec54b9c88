use Rattle.mpd_laws.proofs.complete.NoMemory.{never_memory}
use Rattle.mpd_laws.proofs.reading.no_text_is_memory.Goals as goal

pub returns : goal.returns
returns c = never_memory
