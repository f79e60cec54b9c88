use Rattle.std.proofs.Common.{◌≡◌, ◌-◌, ◌++◌}
use Rattle.std.specs.List.{flat_map, range_with_len}
use Rattle.mpd_diagnose.specs.Modes.{chosen, mode_if}
use Rattle.mpd_diagnose.proofs.modes.chosen.Given as goal

abbrev pub invariant-loop-place : goal.invariant-loop-place
invariant-loop-place l = l.chosen.items ++ flat_map (mode_if l.modes l.flags) (range_with_len l.place (l.count - l.place)) ≡ chosen l.modes l.flags
