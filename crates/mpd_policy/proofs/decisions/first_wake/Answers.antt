use Rattle.std.proofs.Common.{sym, ◌∙◌}
use Rattle.mpd_model.specs.declared.step.Step.TheVariants.{Wake}
use Rattle.mpd_model.specs.steps.Next.{is_enabled}
use Rattle.mpd_model.specs.runs.Decisions.{is_wake}
use Rattle.mpd_policy.proofs.StepKinds.{first_begins, first_on, first_now, wake_steps}
use Rattle.mpd_policy.proofs.decisions.first_wake.Goals as goal

pub loop-rank-init : goal.loop-rank-init
loop-rank-init c =
    let w = c.args.core.now.world in
    first_begins w is_wake Wake c.rank_count-count.result c.rank_count-count.ensures.board (wake_steps w)

pub loop-rank-preserved : goal.loop-rank-preserved
loop-rank-preserved c =
    let w = c.args.core.now.world in
    first_on (λ p. is_enabled w (Wake p)) Wake c.loop-rank.rank c.rank_count-count.result _ c.loop-rank-test.true c.loop-rank.invariant (sym c.is_enabled.ensures ∙ c.if-is_enabled.false)

pub returns-then-is_enabled : goal.returns-then-is_enabled
returns-then-is_enabled c =
    let w = c.args.core.now.world in
    first_now (λ p. is_enabled w (Wake p)) Wake c.loop-rank.rank c.rank_count-count.result _ c.loop-rank-test.true c.loop-rank.invariant (sym c.is_enabled.ensures ∙ c.if-is_enabled.true)
