use Rattle.std.proofs.Common.{length}
use Rattle.mpd_model.specs.steps.World.{call_id, fits, pending}
use Rattle.mpd_match.proofs.Firsts.{Finding}
use Rattle.mpd_match.proofs.Walks.{rest}
use Rattle.mpd_match.proofs.board.Board.first_send.Given as goal

abbrev pub invariant-walk : goal.invariant-walk
invariant-walk l = Finding (λ i. fits l.self.board (call_id l.sender i) l.recv) (pending l.self.board l.sender l.recv.rank) l.fn.looks l.looks l.here

abbrev pub decreases-walk : goal.decreases-walk
decreases-walk l = length (rest l.here (pending l.self.board l.sender l.recv.rank))
