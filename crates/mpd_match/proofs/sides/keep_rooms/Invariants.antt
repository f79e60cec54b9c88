use Rattle.std.proofs.Common.{◌≡◌, ℕ, ◌≤◌, length, take, drop}
use Rattle.mpd_match.specs.Views.{calls_in, lines_in, writes_in, room_in}
use Rattle.mpd_match.proofs.AtSide.{marks_in}
use Rattle.mpd_match.proofs.sides.keep_rooms.Given as goal

abbrev pub invariant-loop-rank : goal.invariant-loop-rank
invariant-loop-rank l = record {
  calls : calls_in l.sides.items ≡ calls_in l.fn.sides.items;
  marks : marks_in l.sides.items ≡ marks_in l.fn.sides.items;
  lines : lines_in l.sides.items ≡ lines_in l.fn.sides.items;
  writes : writes_in l.sides.items ≡ writes_in l.fn.sides.items;
  never_less : (k : ℕ) → room_in k l.fn.sides.items ≤ room_in k l.sides.items;
  size : length l.sides.items ≡ length l.fn.sides.items;
  room : (k : ℕ) → 1 ≤ k → 1 ≤ room_in k (take l.rank l.sides.items);
  rest : drop l.rank l.sides.items ≡ drop l.rank l.fn.sides.items;
}
