use Rattle.mpd_runs.proofs.SampleLemmas.{more_is}
use Rattle.mpd_runs.proofs.sampler.has_more.Goals as goal

pub returns-clause-more : goal.returns-clause-more
returns-clause-more c = more_is c.args.count c.args.limits.fuel c.args.debugger.now.world c.in_ok-listed.listed.more c.in_ok-listed.ensures.more
