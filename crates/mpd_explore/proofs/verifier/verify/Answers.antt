use Rattle.mpd_explore.proofs.VerifyLemmas.{deadlock_checked, deadlock_accepted}
use Rattle.mpd_explore.proofs.verifier.verify.Goals as goal

pub returns-clause-ok : goal.returns-clause-ok
returns-clause-ok c = deadlock_checked c.args.code.now.program c.args.mode c.args.witness.now c.in-Ok.core.world c.verify_deadlock.new.core.world c.verify_deadlock.result c.in-Ok.ensures.world c.verify_deadlock.ensures.ok

pub returns-clause-fault : goal.returns-clause-fault
returns-clause-fault c = rw c.in-Ok.ensures.world at c.verify_deadlock.ensures.fault

pub returns-clause-accepted : goal.returns-clause-accepted
returns-clause-accepted c = deadlock_accepted c.args.code.now.program c.args.mode c.args.witness.now c.verify_deadlock.result (returns-clause-fault c)
