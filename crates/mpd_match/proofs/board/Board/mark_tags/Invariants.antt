use Rattle.std.proofs.Common.{length}
use Rattle.mpd_model.specs.steps.World.{call_id, kind_at, pending}
use Rattle.mpd_match.specs.Tags.{tag_place, sent_tag}
use Rattle.mpd_match.proofs.Tags.{Marking}
use Rattle.mpd_match.proofs.Walks.{rest}
use Rattle.mpd_match.proofs.board.Board.mark_tags.Given as goal

abbrev pub invariant-walk : goal.invariant-walk
invariant-walk l = Marking (λ i. tag_place l.sender (sent_tag (kind_at l.self.board (call_id l.sender i)))) (pending l.self.board l.sender l.receiver) l.fn.marks l.marks l.here

abbrev pub decreases-walk : goal.decreases-walk
decreases-walk l = length (rest l.here (pending l.self.board l.sender l.receiver))
