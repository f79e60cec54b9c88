use Rattle.mpd_explore.specs.Asleep.{Passes}
use Rattle.mpd_explore.proofs.asleep.first_awake.Given as goal

abbrev pub invariant-loop-index : goal.invariant-loop-index
invariant-loop-index g l = Passes g.S.Schedule.same l.sleeps l.asleep l.candidates l.from l.index
