use Rattle.std.proofs.Common.{◌≡◌, ◌-◌, ◌++◌}
use Rattle.std.specs.List.{flat_map, range_with_len}
use Rattle.mpd_page.specs.Changes.{first_entry, first_places}
use Rattle.mpd_page.proofs.changes.first_places.Given as goal

abbrev pub invariant-loop-rank : goal.invariant-loop-rank
invariant-loop-rank l = l.items.items ++ flat_map (first_entry l.core.program l.core.world) (range_with_len l.rank (l.count - l.rank)) ≡ first_places l.core.program l.core.world
