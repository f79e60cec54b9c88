use Rattle.std.proofs.Common.{length}
use Rattle.mpd_model.specs.steps.World.{call_id, posted}
use Rattle.mpd_match.proofs.Walks.{Seeking, rest}
use Rattle.mpd_match.proofs.Matches.{any_send}
use Rattle.mpd_match.proofs.board.Board.can_match_at.Given as goal

abbrev pub invariant-walk : goal.invariant-walk
invariant-walk l = Seeking (λ j. any_send l.self.board (call_id l.receiver j)) (posted l.self.board l.receiver) l.here

abbrev pub decreases-walk : goal.decreases-walk
decreases-walk l = length (rest l.here (posted l.self.board l.receiver))
