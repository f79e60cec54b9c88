use Rattle.std.proofs.Common.{◌≡◌, map, take}
use Rattle.mpd_adapter.specs.Marks.{plan_of}
use Rattle.mpd_adapter.proofs.marks.plans_of.Given as goal

abbrev pub invariant-loop-one : goal.invariant-loop-one
invariant-loop-one l = l.plans.items ≡ map (plan_of l.code.program) (take l.one-index l.wanted)
