use Rattle.std.proofs.Common.{◌≡◌, ◌-◌, ◌++◌, map}
use Rattle.std.specs.List.{range_with_len}
use Rattle.mpd_adapter.specs.Shelves.{printed, all_printed}
use Rattle.mpd_adapter.proofs.shelves.all_printed.Given as goal

abbrev pub invariant-loop-place : goal.invariant-loop-place
invariant-loop-place l = l.list.items ++ map (printed l.values) (range_with_len l.place (l.count - l.place)) ≡ all_printed l.values
