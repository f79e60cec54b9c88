use Rattle.std.proofs.Common.{◌≡◌, length, take}
use Rattle.mpd_model.specs.script.Program.{Program}
use Rattle.mpd_core.specs.Views.{ranks_in, numbers_in, writes_in}
use Rattle.mpd_core.proofs.ranks.copy_ranks.Given as goal

abbrev pub invariant-loop-rank : goal.invariant-loop-rank
invariant-loop-rank l = record {
  ranks : (s : Program) → ranks_in s l.copied.items ≡ ranks_in s (take l.rank l.ranks.items);
  numbers : numbers_in l.copied.items ≡ numbers_in (take l.rank l.ranks.items);
  size : length l.copied.items ≡ l.rank;
  writes : writes_in l.copied.items ≡ 0;
}
