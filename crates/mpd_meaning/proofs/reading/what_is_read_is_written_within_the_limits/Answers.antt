use Rattle.mpd_meaning.proofs.limited.ReadExactly.{read_exactly}
use Rattle.mpd_meaning.proofs.reading.what_is_read_is_written_within_the_limits.Goals as goal

pub returns : goal.returns
returns c = read_exactly c.statements_are_of_version.ensures c.read_scripts_are_printable.ensures c.written_scripts_are_read.ensures
