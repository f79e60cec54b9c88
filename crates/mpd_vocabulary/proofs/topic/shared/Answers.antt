use Rattle.mpd_vocabulary.proofs.FaultLemmas.{shared_ended}
use Rattle.mpd_vocabulary.proofs.topic.shared.Goals as goal

pub returns-in-None-clause-value : goal.returns-in-None-clause-value
returns-in-None-clause-value c = shared_ended c.loop-i.i _ _ c.loop-i.rest.now c.in-None.ensures.cases c.loop-i.invariant.value
