use Rattle.std.proofs.Common.{◌≡◌, ◌++◌, drop, string_bytes}
use Rattle.mpd_explore.specs.Deadlocks.{leaf_lines}
use Rattle.mpd_explore.proofs.deadlocks.push_all.Given as goal

abbrev pub invariant-loop-number : goal.invariant-loop-number
invariant-loop-number l = string_bytes l.out ++ leaf_lines l.wanted l.number (drop l.number l.leaves) ≡ string_bytes l.fn.out ++ leaf_lines l.wanted 0 l.leaves
