use Rattle.std.proofs.Common.{◌≡◌, drop, map, slice_get}
use Rattle.mpd_names.specs.Placed.{rank_line}
use Rattle.mpd_diagnose.specs.Causes.{with_numbers, trap_lines}
use Rattle.mpd_diagnose.proofs.cause.trap_lines.Given as goal

abbrev pub invariant-loop-trapped : goal.invariant-loop-trapped
invariant-loop-trapped l = with_numbers l.lines.keys (map (λ t. rank_line l.core.program.lines (slice_get l.core.world.ranks t.rank)) (drop l.trapped-index l.traps)) ≡ trap_lines l.core.program l.core.world l.traps
