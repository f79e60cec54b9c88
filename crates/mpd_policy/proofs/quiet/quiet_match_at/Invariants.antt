use Rattle.std.proofs.Common.{length}
use Rattle.mpd_model.specs.steps.World.{call_id, posted}
use Rattle.mpd_match.proofs.Walks.{rest}
use Rattle.mpd_match.proofs.Picked.{Finding}
use Rattle.mpd_policy.proofs.QuietLemmas.{quiet_with}
use Rattle.mpd_policy.proofs.quiet.quiet_match_at.Given as goal

abbrev pub invariant-walk : goal.invariant-walk
invariant-walk l = Finding (λ j. quiet_with l.core.world (call_id l.receiver j)) (posted l.core.world.board l.receiver) l.here

abbrev pub decreases-walk : goal.decreases-walk
decreases-walk l = length (rest l.here (posted l.core.world.board l.receiver))
