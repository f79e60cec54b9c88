use Rattle.std.proofs.Common.{◌≡◌, ◌≤◌, ◌-◌, ◌++◌, length}
use Rattle.std.specs.List.{flat_map, range_with_len}
use Rattle.mpd_model.specs.steps.Why.{why_from, why_recv}
use Rattle.mpd_match.proofs.board.Board.push_sends.Given as goal

abbrev pub invariant-loop-sender : goal.invariant-loop-sender
invariant-loop-sender l = record {
  given : l.out.items ++ flat_map (why_from l.self.board l.recv) (range_with_len l.sender (l.count - l.sender)) ≡ l.fn.out.items ++ why_recv l.self.board l.recv;
  grows : length l.fn.out.items ≤ length l.out.items;
}
