use Rattle.std.proofs.Common.{length}
use Rattle.mpd_model.specs.steps.World.{call_id, posted}
use Rattle.mpd_model.specs.steps.Why.{why_send}
use Rattle.mpd_match.specs.Entries.{partner_entry}
use Rattle.mpd_match.proofs.Walks.{rest}
use Rattle.mpd_match.proofs.Gathered.{Gathering}
use Rattle.mpd_match.proofs.board.Board.push_recvs.Given as goal

abbrev pub invariant-walk : goal.invariant-walk
invariant-walk l = Gathering (λ j. partner_entry l.self.board (call_id l.rank j) l.send (call_id l.rank j)) (posted l.self.board l.rank) l.fn.out.items (why_send l.self.board l.send l.rank) l.out.items l.here

abbrev pub decreases-walk : goal.decreases-walk
decreases-walk l = length (rest l.here (posted l.self.board l.rank))
