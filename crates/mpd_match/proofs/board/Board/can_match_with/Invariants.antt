use Rattle.std.proofs.Common.{◌≡◌, ◌-◌}
use Rattle.std.specs.List.{list_any}
use Rattle.mpd_model.specs.steps.World.{call_id, call_numbers, eligible}
use Rattle.mpd_match.proofs.Matches.{any_from}
use Rattle.mpd_match.proofs.board.Board.can_match_with.Given as goal

abbrev pub invariant-loop-sender : goal.invariant-loop-sender
invariant-loop-sender l = any_from (λ p. list_any (λ i. eligible l.self.board (call_id p i) l.recv) (call_numbers l.self.board p)) l.sender (l.count - l.sender)
    ≡ any_from (λ p. list_any (λ i. eligible l.self.board (call_id p i) l.recv) (call_numbers l.self.board p)) 0 l.count
