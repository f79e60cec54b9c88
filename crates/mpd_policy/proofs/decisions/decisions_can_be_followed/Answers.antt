use Rattle.mpd_policy.proofs.Followed.{followed, leaf_where}
use Rattle.mpd_policy.proofs.decisions.decisions_can_be_followed.Goals as goal

pub returns-clause-follow : goal.returns-clause-follow
returns-clause-follow c = followed

pub returns-clause-leaf : goal.returns-clause-leaf
returns-clause-leaf c = leaf_where
