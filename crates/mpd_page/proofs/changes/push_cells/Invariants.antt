use Rattle.std.proofs.Common.{◌≡◌, ◌-◌, ◌++◌}
use Rattle.std.specs.List.{flat_map, range_with_len}
use Rattle.mpd_page.specs.Changes.{value_changed, cells_changed}
use Rattle.mpd_page.proofs.changes.push_cells.Given as goal

abbrev pub invariant-loop-cell : goal.invariant-loop-cell
invariant-loop-cell l = l.out.items ++ flat_map (value_changed l.rank l.was l.now) (range_with_len l.cell (l.count - l.cell)) ≡ l.fn.out.items ++ cells_changed l.rank l.was l.now
