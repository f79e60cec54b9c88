use Rattle.std.proofs.Common.{◌≡◌, ◌-◌, []}
use Rattle.mpd_model.specs.runs.Decisions.{any_choices}
use Rattle.mpd_policy.proofs.StepKinds.{any_from}
use Rattle.mpd_policy.proofs.decisions.push_any_choices.Given as goal

abbrev pub invariant-loop-rank : goal.invariant-loop-rank
invariant-loop-rank l = (l.steps.items ≡ []) × (any_from l.core.world l.rank (l.count - l.rank) ≡ any_choices l.core.world)
