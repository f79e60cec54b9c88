use Rattle.std.proofs.Common.{◌≡◌, length, map}
use Rattle.mpd_trace.specs.Hints.{reserved_in}
use Rattle.mpd_trace.proofs.hints.has_word.Given as goal

abbrev pub invariant-loop-table : goal.invariant-loop-table
invariant-loop-table l = reserved_in (map (λ k. (k.0.now, k.1)) l.table) l.word ≡ reserved_in (map (λ k. (k.0.now, k.1)) l.initial.table) l.word

abbrev pub decreases-loop-table : goal.decreases-loop-table
decreases-loop-table l = length l.table
