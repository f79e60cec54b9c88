use Rattle.mpd_meaning.proofs.limited.LimitedLaws.{nothing_begins}
use Rattle.mpd_meaning.proofs.reading.nothing_written_begins_with_a_fault.Goals as goal

pub returns : goal.returns
returns c = nothing_begins c.turns_are_enough.ensures
