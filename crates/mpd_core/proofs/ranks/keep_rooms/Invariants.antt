use Rattle.std.proofs.Common.{◌≡◌, ℕ, ◌≤◌, length, take, drop}
use Rattle.mpd_model.specs.script.Program.{Program}
use Rattle.mpd_core.specs.Views.{ranks_in, numbers_in, room_in, writes_in}
use Rattle.mpd_core.proofs.ranks.keep_rooms.Given as goal

abbrev pub invariant-loop-rank : goal.invariant-loop-rank
invariant-loop-rank l = record {
  same : (s : Program) → ranks_in s l.ranks.items ≡ ranks_in s l.fn.ranks.items;
  numbers : numbers_in l.ranks.items ≡ numbers_in l.fn.ranks.items;
  writes : writes_in l.ranks.items ≡ writes_in l.fn.ranks.items;
  size : length l.ranks.items ≡ length l.fn.ranks.items;
  room : (k : ℕ) → 1 ≤ k → 1 ≤ room_in k (take l.rank l.ranks.items);
  never_less : (k : ℕ) → room_in k l.fn.ranks.items ≤ room_in k l.ranks.items;
  rest : drop l.rank l.ranks.items ≡ drop l.rank l.fn.ranks.items;
}
