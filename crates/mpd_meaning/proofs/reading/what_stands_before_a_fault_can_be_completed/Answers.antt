use Rattle.mpd_meaning.proofs.viable.ViableScript.{before_a_fault}
use Rattle.mpd_meaning.proofs.reading.what_stands_before_a_fault_can_be_completed.Goals as goal

pub returns : goal.returns
returns c = before_a_fault
