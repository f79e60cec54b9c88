use Rattle.std.proofs.Common.{◌≡◌, length, map}
use Rattle.mpd_console.specs.Values.{first_allowed}
use Rattle.mpd_console.proofs.values.first_allowed.Given as goal

abbrev pub invariant-loop-table : goal.invariant-loop-table
invariant-loop-table l =
    first_allowed l.code.program.decls l.front (map (λ k. (k.0, k.1.now)) l.table) ≡ first_allowed l.code.program.decls l.front (map (λ k. (k.0, k.1.now)) l.initial.table)

abbrev pub decreases-loop-table : goal.decreases-loop-table
decreases-loop-table l = length l.table
