use Rattle.std.proofs.Common.{◌≡◌, ◌-◌, ◌++◌}
use Rattle.std.specs.List.{flat_map, range_with_len}
use Rattle.mpd_page.specs.Changes.{reason_entry, reasons_changed}
use Rattle.mpd_page.proofs.changes.reasons_changed.Given as goal

abbrev pub invariant-loop-rank : goal.invariant-loop-rank
invariant-loop-rank l = l.items.items ++ flat_map (reason_entry l.before.world l.after.world) (range_with_len l.rank (l.count - l.rank)) ≡ reasons_changed l.before.world l.after.world
