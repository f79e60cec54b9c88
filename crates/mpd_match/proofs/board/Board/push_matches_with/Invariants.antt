use Rattle.std.proofs.Common.{◌≡◌, ◌≤◌, ◌-◌, ◌++◌, length}
use Rattle.std.specs.List.{flat_map, range_with_len}
use Rattle.mpd_match.specs.Matches.{matches_from, matches_with}
use Rattle.mpd_match.proofs.board.Board.push_matches_with.Given as goal

abbrev pub invariant-loop-sender : goal.invariant-loop-sender
invariant-loop-sender l = record {
  given : l.out.items ++ flat_map (matches_from l.self.board l.recv) (range_with_len l.sender (l.count - l.sender)) ≡ l.fn.out.items ++ matches_with l.self.board l.recv;
  grows : length l.fn.out.items ≤ length l.out.items;
}
