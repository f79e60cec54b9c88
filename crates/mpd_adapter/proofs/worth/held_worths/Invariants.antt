use Rattle.std.proofs.Common.{◌≡◌, ◌-◌, ◌++◌}
use Rattle.std.specs.List.{flat_map, range_with_len}
use Rattle.mpd_adapter.specs.Worths.{held_worth, held_worths}
use Rattle.mpd_adapter.proofs.worth.held_worths.Given as goal

abbrev pub invariant-loop-rank : goal.invariant-loop-rank
invariant-loop-rank l = l.list.items ++ flat_map (held_worth l.core.world l.named l.meant) (range_with_len l.rank (l.count - l.rank)) ≡ held_worths l.core.world l.named l.meant
