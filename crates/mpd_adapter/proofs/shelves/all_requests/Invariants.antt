use Rattle.std.proofs.Common.{◌≡◌, ◌-◌, ◌++◌, map}
use Rattle.std.specs.List.{range_with_len}
use Rattle.mpd_adapter.specs.Shelves.{request, all_requests}
use Rattle.mpd_adapter.proofs.shelves.all_requests.Given as goal

abbrev pub invariant-loop-cell : goal.invariant-loop-cell
invariant-loop-cell l = l.list.items ++ map (request l.decls l.rank l.handles) (range_with_len l.cell (l.count - l.cell)) ≡ all_requests l.decls l.rank l.handles
