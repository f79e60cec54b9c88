use Rattle.std.proofs.Common.{◌≡◌, ◌≤◌, ◌-◌, ◌++◌, length}
use Rattle.std.specs.List.{flat_map, range_with_len}
use Rattle.mpd_match.specs.Matches.{matches_at, matches_on}
use Rattle.mpd_match.proofs.board.Board.push_matches.Given as goal

abbrev pub invariant-loop-receiver : goal.invariant-loop-receiver
invariant-loop-receiver l = record {
  given : l.out.items ++ flat_map (matches_at l.self.board) (range_with_len l.receiver (l.count - l.receiver)) ≡ l.fn.out.items ++ matches_on l.self.board;
  grows : length l.fn.out.items ≤ length l.out.items;
}
