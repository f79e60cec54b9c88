use Rattle.std.proofs.Common.{◌≡◌, drop}
use Rattle.std.specs.List.{list_any}
use Rattle.mpd_explore.proofs.asleep.is_asleep.Given as goal

abbrev pub invariant-loop-step : goal.invariant-loop-step
invariant-loop-step g l = list_any (g.S.Schedule.same l.candidate) (drop l.step-index l.asleep) ≡ list_any (g.S.Schedule.same l.candidate) l.asleep
