use Rattle.std.proofs.Common.{◌∙◌}
use Rattle.mpd_match.proofs.Candidates.{found_any}
use Rattle.mpd_match.proofs.board.Board.can_match_from.Goals as goal

pub returns : goal.returns
returns c = c.is_some.ensures ∙ found_any c.args.self.now.board c.args.sender c.args.recv c.candidate.result c.candidate.ensures.found
