use Rattle.std.proofs.Common.{length}
use Rattle.mpd_model.specs.steps.World.{call_id, posted}
use Rattle.mpd_match.specs.Matches.{matches_with, matches_at}
use Rattle.mpd_match.proofs.Walks.{rest}
use Rattle.mpd_match.proofs.Gathered.{Gathering}
use Rattle.mpd_match.proofs.board.Board.push_matches_at.Given as goal

abbrev pub invariant-walk : goal.invariant-walk
invariant-walk l = Gathering (λ j. matches_with l.self.board (call_id l.receiver j)) (posted l.self.board l.receiver) l.fn.out.items (matches_at l.self.board l.receiver) l.out.items l.here

abbrev pub decreases-walk : goal.decreases-walk
decreases-walk l = length (rest l.here (posted l.self.board l.receiver))
