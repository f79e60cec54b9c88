use Rattle.std.proofs.Common.{◌≡◌, IfSome, subst}
use Rattle.mpd_model.specs.script.Term.{Env}
use Rattle.mpd_rank.specs.declared.plan.LocalPlan.TheVariants.{Alone}
use Rattle.mpd_rank.specs.Plans.{plan_of}
use Rattle.mpd_rank.proofs.PlanLemmas.{planned_if}
use Rattle.mpd_rank.proofs.rank.RankState.plan_alone.Goals as goal

pub returns-clause-planned : goal.returns-clause-planned
returns-clause-planned c =
    let node = c.in_ok-node.node.now in
    planned_if c.args.code.now.program c.args.self.now node c.plan_alone.result c.in_ok-node.ensures.running c.in_ok-node.ensures.some
    (subst (λ (env : Env). IfSome c.plan_alone.result (λ plan. Alone plan ≡ plan_of node.action node.next env)) c.env-env.ensures c.plan_alone.ensures)
