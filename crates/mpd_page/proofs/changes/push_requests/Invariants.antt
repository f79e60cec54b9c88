use Rattle.std.proofs.Common.{◌≡◌, ◌-◌, ◌++◌}
use Rattle.std.specs.List.{flat_map, range_with_len}
use Rattle.mpd_page.specs.Changes.{handle_changed, requests_changed}
use Rattle.mpd_page.proofs.changes.push_requests.Given as goal

abbrev pub invariant-loop-cell : goal.invariant-loop-cell
invariant-loop-cell l = l.out.items ++ flat_map (handle_changed l.rank l.was l.now) (range_with_len l.cell (l.count - l.cell)) ≡ l.fn.out.items ++ requests_changed l.rank l.was l.now
