use Rattle.std.proofs.Common.{ap, ◌∙◌}
use Rattle.mpd_rank.specs.Plans.{plan_of}
use Rattle.mpd_rank.proofs.PlanLemmas.{planned_at}
use Rattle.mpd_rank.proofs.rank.RankState.plan_local.Goals as goal

pub returns-clause-step : goal.returns-clause-step
returns-clause-step c =
    let node = c.in_ok-node.node.now in
    (planned_at c.args.code.now.program c.args.self.now node c.plan_node.result c.in_ok-node.ensures.running c.in_ok-node.ensures.some (c.plan_node.ensures ∙ ap (plan_of node.action node.next) c.env-env.ensures)).0
