use Rattle.std.proofs.Common.{◌≡◌, ◌-◌, ◌++◌, map}
use Rattle.std.specs.List.{range_with_len}
use Rattle.mpd_adapter.specs.Shelves.{call, all_calls}
use Rattle.mpd_adapter.proofs.shelves.all_calls.Given as goal

abbrev pub invariant-loop-index : goal.invariant-loop-index
invariant-loop-index l = l.list.items ++ map (call l.core.world.board l.rank) (range_with_len l.index (l.count - l.index)) ≡ all_calls l.core.world.board l.rank
