use Rattle.std.proofs.Common.{◌≡◌, ◌-◌, ◌++◌, map}
use Rattle.std.specs.List.{range_with_len}
use Rattle.mpd_adapter.specs.Shelves.{variable, all_variables}
use Rattle.mpd_adapter.proofs.shelves.all_variables.Given as goal

abbrev pub invariant-loop-cell : goal.invariant-loop-cell
invariant-loop-cell l = l.list.items ++ map (variable l.decls l.values) (range_with_len l.cell (l.count - l.cell)) ≡ all_variables l.decls l.values
