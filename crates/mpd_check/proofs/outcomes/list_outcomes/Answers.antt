use Rattle.std.proofs.Common.{subst}
use Rattle.std.specs.Prelude.{IfOk}
use Rattle.mpd_model.specs.runs.Trail.{Standing}
use Rattle.mpd_check.specs.Outcomes.{AreOutcomes}
use Rattle.mpd_check.proofs.outcomes.list_outcomes.Goals as goal

pub returns : goal.returns
returns c = subst (λ (d : Standing). IfOk c.list_there-listing.result (AreOutcomes c.args.plan.explain c.args.plan.limits d)) c.in_ok-debugger.ensures.standing c.list_there-listing.ensures
