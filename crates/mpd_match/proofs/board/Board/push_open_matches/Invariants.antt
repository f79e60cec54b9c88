use Rattle.std.proofs.Common.{◌≡◌, ◌≤◌, ◌-◌, ◌++◌, length}
use Rattle.std.specs.List.{filter, flat_map, range_with_len}
use Rattle.mpd_model.specs.runs.Decisions.{is_open_match}
use Rattle.mpd_match.specs.Matches.{matches_on}
use Rattle.mpd_match.specs.Picked.{picked_at}
use Rattle.mpd_match.proofs.board.Board.push_open_matches.Given as goal

abbrev pub invariant-loop-receiver : goal.invariant-loop-receiver
invariant-loop-receiver l = record {
  given : l.out.items ++ flat_map (picked_at is_open_match l.self.board) (range_with_len l.receiver (l.count - l.receiver)) ≡ l.fn.out.items ++ filter (is_open_match l.self.board) (matches_on l.self.board);
  grows : length l.fn.out.items ≤ length l.out.items;
}
