use Rattle.mpd_policy.proofs.StepKinds.{release_some, release_none}
use Rattle.mpd_policy.proofs.decisions.release.Goals as goal

pub returns-then-is_enabled : goal.returns-then-is_enabled
returns-then-is_enabled c = release_some c.args.core.now.world c.is_enabled.result c.is_enabled.ensures c.if-is_enabled.true

pub returns : goal.returns
returns c = release_none c.args.core.now.world c.is_enabled.result c.is_enabled.ensures c.if-is_enabled.false
