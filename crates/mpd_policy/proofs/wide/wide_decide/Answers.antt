use Rattle.std.proofs.Common.{rules}
use Rattle.mpd_policy.proofs.WideLemmas.{leaf_is}
use Rattle.mpd_policy.proofs.wide.wide_decide.Goals as goal

pub returns-clause-ok : goal.returns-clause-ok
returns-clause-ok c =
    leaf_is c.args.core.now.world c.first_quiet.result c.in_ok-steps.steps.items c.in_ok-outcome.outcome c.first_quiet.ensures c.in_default.is c.in_ok-steps.ensures.ok (search rules) c.in_ok-outcome.ensures.ok
