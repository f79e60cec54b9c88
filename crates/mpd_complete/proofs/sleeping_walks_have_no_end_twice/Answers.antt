use Rattle.mpd_complete.proofs.Once.{have_no_end_twice}
use Rattle.mpd_complete.proofs.sleeping_walks_have_no_end_twice.Goals as goal

pub returns : goal.returns
returns c = have_no_end_twice
