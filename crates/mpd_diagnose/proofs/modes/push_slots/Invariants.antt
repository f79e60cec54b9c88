use Rattle.std.proofs.Common.{◌≡◌, ◌-◌, ◌++◌}
use Rattle.std.specs.List.{flat_map, range_with_len}
use Rattle.mpd_diagnose.specs.Modes.{more_slots, slots_up_to}
use Rattle.mpd_diagnose.proofs.modes.push_slots.Given as goal

abbrev pub invariant-loop-before : goal.invariant-loop-before
invariant-loop-before l = l.modes.items ++ flat_map more_slots (range_with_len l.before (l.most - l.before)) ≡ l.fn.modes.items ++ slots_up_to l.most
