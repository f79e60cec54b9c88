use Rattle.mpd_policy.proofs.StepKinds.{named_first}
use Rattle.mpd_policy.proofs.decisions.first_named_match.Goals as goal

pub returns : goal.returns
returns c = named_first c.args.core.now.world c.board.result.now.board c.first_named_match.result c.board.ensures c.first_named_match.ensures
