use Rattle.std.proofs.Common.{length}
use Rattle.mpd_model.specs.steps.World.{call_id, fits, posted}
use Rattle.mpd_match.proofs.Firsts.{Finding}
use Rattle.mpd_match.proofs.Walks.{rest}
use Rattle.mpd_match.proofs.board.Board.first_recv.Given as goal

abbrev pub invariant-walk : goal.invariant-walk
invariant-walk l = Finding (λ j. fits l.self.board l.send (call_id l.rank j)) (posted l.self.board l.rank) l.fn.looks l.looks l.here

abbrev pub decreases-walk : goal.decreases-walk
decreases-walk l = length (rest l.here (posted l.self.board l.rank))
