use Rattle.std.proofs.Common.{◌≡◌, ℕ, ◌<◌, true, length}
use Rattle.mpd_model.specs.steps.World.{call_id, kind_at, is_pending}
use Rattle.mpd_match.specs.Tags.{tag_place, sent_tag, is_marked}
use Rattle.mpd_match.proofs.board.Board.mark_all.Given as goal

abbrev pub invariant-loop-sender : goal.invariant-loop-sender
invariant-loop-sender l =
    (length l.marks ≡ length l.fn.marks) × ((p i : ℕ) → p < l.sender → is_pending l.self.board p l.receiver i ≡ true → is_marked l.marks (tag_place p (sent_tag (kind_at l.self.board (call_id p i)))) ≡ true)
