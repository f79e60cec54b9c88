use Rattle.std.proofs.Common.{◌≡◌, ◌-◌, ◌++◌}
use Rattle.std.specs.List.{flat_map, range_with_len}
use Rattle.mpd_page.specs.Changes.{printed_at, printed}
use Rattle.mpd_page.proofs.changes.printed_since.Given as goal

abbrev pub invariant-loop-rank : goal.invariant-loop-rank
invariant-loop-rank l = l.items.items ++ flat_map (printed_at l.before.world l.after.world) (range_with_len l.rank (l.count - l.rank)) ≡ printed l.before.world l.after.world
