use Rattle.std.proofs.Common.{◌≡◌, ◌-◌, ◌++◌}
use Rattle.std.specs.List.{flat_map, range_with_len}
use Rattle.mpd_page.specs.Changes.{place_entry, places_changed}
use Rattle.mpd_page.proofs.changes.places_changed.Given as goal

abbrev pub invariant-loop-rank : goal.invariant-loop-rank
invariant-loop-rank l = l.items.items ++ flat_map (place_entry l.before.program l.before.world l.after.world) (range_with_len l.rank (l.count - l.rank)) ≡ places_changed l.before.program l.before.world l.after.world
