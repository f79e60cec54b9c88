use Rattle.std.proofs.Common.{length}
use Rattle.mpd_model.specs.steps.World.{call_id, pending}
use Rattle.mpd_model.specs.steps.Why.{why_from}
use Rattle.mpd_match.specs.Entries.{partner_entry}
use Rattle.mpd_match.proofs.Walks.{rest}
use Rattle.mpd_match.proofs.Gathered.{Gathering}
use Rattle.mpd_match.proofs.board.Board.push_sends_from.Given as goal

abbrev pub invariant-walk : goal.invariant-walk
invariant-walk l = Gathering (λ i. partner_entry l.self.board (call_id l.sender i) (call_id l.sender i) l.recv) (pending l.self.board l.sender l.recv.rank) l.fn.out.items (why_from l.self.board l.recv l.sender) l.out.items l.here

abbrev pub decreases-walk : goal.decreases-walk
decreases-walk l = length (rest l.here (pending l.self.board l.sender l.recv.rank))
