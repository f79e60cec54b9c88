use Rattle.mpd_core.proofs.RangeLemmas.{match_on}
use Rattle.mpd_core.proofs.state.Core.can_match_at.Goals as goal

pub returns : goal.returns
returns c = match_on c.args.self.now.world c.board.result.now.board c.args.receiver c.can_match_at.result c.board.ensures c.can_match_at.ensures
