use Rattle.std.proofs.Common.{◌≡◌, length, map}
use Rattle.mpd_trace.specs.Hints.{instead_in}
use Rattle.mpd_trace.proofs.hints.instead_in.Given as goal

abbrev pub invariant-loop-table : goal.invariant-loop-table
invariant-loop-table l = instead_in (map (λ k. (k.0.now, k.1.now)) l.table) l.word ≡ instead_in (map (λ k. (k.0.now, k.1.now)) l.initial.table) l.word

abbrev pub decreases-loop-table : goal.decreases-loop-table
decreases-loop-table l = length l.table
