use Rattle.std.proofs.lemmas.List.{length-replicate}
use Rattle.mpd_model.specs.declared.limits.TheConstants.{BREAKS_MAX}
use Rattle.mpd_policy.specs.declared.hits.Watched.{Watched}
use Rattle.mpd_policy.specs.declared.hits.Watched.TheVariants.{Nothing}
use Rattle.mpd_policy.proofs.WatchLemmas.{watch_begins}
use Rattle.mpd_policy.proofs.breaks.Breaks.watch.Goals as goal

pub loop-number-init : goal.loop-number-init
loop-number-init c = (length-replicate {A = Watched} BREAKS_MAX Nothing, watch_begins c.args.core.now.world c.args.self.now)
