use Rattle.std.proofs.Common.{◌≡◌, ◌-◌}
use Rattle.mpd_model.specs.declared.step.Step.TheVariants.{Local}
use Rattle.mpd_model.specs.runs.Decisions.{first_enabled}
use Rattle.mpd_policy.specs.Wide.{is_quiet_local}
use Rattle.mpd_policy.proofs.StepKinds.{first_from}
use Rattle.mpd_policy.proofs.QuietLemmas.{quiet_number}
use Rattle.mpd_policy.proofs.quiet.first_quiet_local.Given as goal

abbrev pub invariant-loop-rank : goal.invariant-loop-rank
invariant-loop-rank l = first_from (quiet_number l.core.world) Local l.rank (l.count - l.rank) ≡ first_enabled l.core.world (is_quiet_local l.core.world)
