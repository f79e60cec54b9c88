use Rattle.std.proofs.Common.{rules}
use Rattle.mpd_policy.proofs.StepKinds.{leaf_now}
use Rattle.mpd_policy.proofs.decisions.decide.Goals as goal

pub returns-clause-ok : goal.returns-clause-ok
returns-clause-ok c =
    leaf_now c.args.core.now.world c.forced_step.result c.in_ok-steps.steps.items c.in_ok-outcome.outcome c.forced_step.ensures c.in_default.is c.in_ok-steps.ensures.ok (search rules) c.in_ok-outcome.ensures.ok
