use Rattle.std.proofs.Common.{sym, ◌∙◌}
use Rattle.mpd_model.specs.declared.step.Step.TheVariants.{Local}
use Rattle.mpd_policy.proofs.StepKinds.{first_on, first_now}
use Rattle.mpd_policy.proofs.QuietLemmas.{quiet_number, local_begins}
use Rattle.mpd_policy.proofs.quiet.first_quiet_local.Goals as goal

pub loop-rank-init : goal.loop-rank-init
loop-rank-init c = local_begins c.args.core.now.world c.rank_count-count.result c.rank_count-count.ensures.board

pub loop-rank-preserved : goal.loop-rank-preserved
loop-rank-preserved c =
    first_on (quiet_number c.args.core.now.world) Local c.loop-rank.rank c.rank_count-count.result _ c.loop-rank-test.true c.loop-rank.invariant (sym c.is_enabled_quiet.ensures ∙ c.if-is_enabled_quiet.false)

pub returns-then-is_enabled_quiet : goal.returns-then-is_enabled_quiet
returns-then-is_enabled_quiet c =
    first_now (quiet_number c.args.core.now.world) Local c.loop-rank.rank c.rank_count-count.result _ c.loop-rank-test.true c.loop-rank.invariant (sym c.is_enabled_quiet.ensures ∙ c.if-is_enabled_quiet.true)
