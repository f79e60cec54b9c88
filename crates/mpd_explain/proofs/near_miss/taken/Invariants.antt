use Rattle.std.proofs.Common.{◌≡◌, drop}
use Rattle.mpd_explain.specs.Missed.{last_from, each_taken, taken}
use Rattle.mpd_explain.proofs.near_miss.taken.Given as goal

abbrev pub invariant-loop-set : goal.invariant-loop-set
invariant-loop-set l = last_from l.found (each_taken l.core.world.board l.call (drop l.set-index l.core.world.board.sets)) ≡ taken l.core.world.board l.call
