use Rattle.std.proofs.Common.{◌≡◌, ◌-◌}
use Rattle.mpd_model.specs.steps.Why.{first_in}
use Rattle.mpd_model.specs.runs.Decisions.{is_named_match}
use Rattle.mpd_match.specs.Picked.{picked_at, picked_on}
use Rattle.mpd_match.proofs.Picked.{first_from}
use Rattle.mpd_match.proofs.board.Board.first_named_match.Given as goal

abbrev pub invariant-loop-receiver : goal.invariant-loop-receiver
invariant-loop-receiver l = first_from (picked_at is_named_match l.self.board) l.receiver (l.count - l.receiver) ≡ first_in (picked_on is_named_match l.self.board)
