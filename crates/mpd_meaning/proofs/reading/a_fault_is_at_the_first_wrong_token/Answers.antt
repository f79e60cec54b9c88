use Rattle.mpd_meaning.proofs.viable.FirstWrong.{first_wrong}
use Rattle.mpd_meaning.proofs.reading.a_fault_is_at_the_first_wrong_token.Goals as goal

pub returns : goal.returns
returns c = first_wrong c.what_stands_before_a_fault_can_be_completed.ensures c.nothing_written_begins_with_a_fault.ensures
