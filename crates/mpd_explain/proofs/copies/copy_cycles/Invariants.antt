use Rattle.std.proofs.Common.{◌≡◌, take}
use Rattle.mpd_explain.proofs.copies.copy_cycles.Given as goal

abbrev pub invariant-loop-cycle : goal.invariant-loop-cycle
invariant-loop-cycle l = l.items.items ≡ take l.cycle-index l.cycles
