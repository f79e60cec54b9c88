use Rattle.std.proofs.Common.{◌≡◌, ◌-◌}
use Rattle.std.specs.List.{range_with_len}
use Rattle.mpd_diagnose.specs.Causes.{with_standing, standing_lines}
use Rattle.mpd_diagnose.proofs.cause.standing_lines.Given as goal

abbrev pub invariant-loop-rank : goal.invariant-loop-rank
invariant-loop-rank l = with_standing l.core.program l.core.world l.lines.keys (range_with_len l.rank (l.count - l.rank)) ≡ standing_lines l.core.program l.core.world
