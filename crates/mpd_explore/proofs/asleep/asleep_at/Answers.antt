use Rattle.mpd_explore.proofs.AsleepLemmas.{asleep_here}
use Rattle.mpd_explore.proofs.asleep.asleep_at.Goals as goal

pub returns : goal.returns
returns c = asleep_here c.args.sleeps c.args.index c.args.candidates.now c.args.asleep.now c.tried.result.now c.in_ok-items.items.items c.tried.ensures c.in_ok-items.ensures
