use Rattle.mpd_meaning.proofs.local.NoScript.{no_script}
use Rattle.mpd_meaning.proofs.reading.no_script_begins_with_a_fault.Goals as goal

pub returns : goal.returns
returns c = no_script c.tokens_up_to_it_decide_a_fault.ensures c.what_is_read_is_written_within_the_limits.ensures
