use Rattle.std.proofs.Common.{◌≡◌, replicate, length}
use Rattle.std.specs.List.{range_with_len}
use Rattle.mpd_model.specs.steps.World.{start_rank}
use Rattle.mpd_core.specs.Views.{ranks_in, numbers_in, writes_in}
use Rattle.mpd_core.proofs.ranks.start_ranks.Given as goal

abbrev pub invariant-loop-rank : goal.invariant-loop-rank
invariant-loop-rank l = record {
  ranks : ranks_in l.code.program l.ranks.items ≡ replicate l.rank (start_rank l.code.program);
  numbers : numbers_in l.ranks.items ≡ range_with_len 0 l.rank;
  writes : writes_in l.ranks.items ≡ 0;
  size : length l.ranks.items ≡ l.rank;
}
