use Rattle.mpd_model.specs.runs.Trail.{done_steps}
use Rattle.mpd_explore.proofs.DeadlockLemmas.{own_all}
use Rattle.mpd_explore.proofs.deadlocks.with_witnesses.Goals as goal

pub returns-clause-witnesses : goal.returns-clause-witnesses
returns-clause-witnesses c =
    let d = c.args.debugger.now in
    rw c.in_ok-leaves.ensures.leaves (own_all d.trail.program d.trail.mode (done_steps d.trail) c.args.fuel d.world c.args.report.leaves.items c.requires.listed)
