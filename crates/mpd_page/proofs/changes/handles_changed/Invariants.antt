use Rattle.std.proofs.Common.{◌≡◌, ◌-◌, ◌++◌}
use Rattle.std.specs.List.{flat_map, range_with_len}
use Rattle.mpd_page.specs.Changes.{handles_at, handles_changed}
use Rattle.mpd_page.proofs.changes.handles_changed.Given as goal

abbrev pub invariant-loop-rank : goal.invariant-loop-rank
invariant-loop-rank l = l.items.items ++ flat_map (handles_at l.before.world l.after.world) (range_with_len l.rank (l.count - l.rank)) ≡ handles_changed l.before.world l.after.world
