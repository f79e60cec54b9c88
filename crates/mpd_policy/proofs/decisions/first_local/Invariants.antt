use Rattle.std.proofs.Common.{◌≡◌, ◌-◌}
use Rattle.mpd_model.specs.declared.step.Step.TheVariants.{Local}
use Rattle.mpd_model.specs.steps.Next.{is_enabled}
use Rattle.mpd_model.specs.runs.Decisions.{is_local, first_enabled}
use Rattle.mpd_policy.proofs.StepKinds.{first_from}
use Rattle.mpd_policy.proofs.decisions.first_local.Given as goal

abbrev pub invariant-loop-rank : goal.invariant-loop-rank
invariant-loop-rank l = first_from (λ p. is_enabled l.core.world (Local p)) Local l.rank (l.count - l.rank) ≡ first_enabled l.core.world is_local
