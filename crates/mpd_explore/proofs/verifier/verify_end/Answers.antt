use Rattle.mpd_model.specs.steps.World.{start}
use Rattle.mpd_explore.proofs.VerifyLemmas.{witnessed}
use Rattle.mpd_explore.proofs.verifier.verify_end.Goals as goal

pub returns-clause-ok : goal.returns-clause-ok
returns-clause-ok c = witnessed (start c.args.code.now.program c.args.mode) c.verify_from.new.core.world c.args.witness.now c.verify_from.result (rw c.in-Ok.ensures.world at c.verify_from.ensures.ok)

pub returns-clause-accepted : goal.returns-clause-accepted
returns-clause-accepted c = rw c.in-Ok.ensures.world at c.verify_from.ensures.accepted
