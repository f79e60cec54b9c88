use Rattle.mpd_model.specs.runs.Trail.{IsReached}
use Rattle.mpd_trail.specs.DebuggerViews.{standing_of}
use Rattle.mpd_policy.proofs.RunLemmas.{Going}
use Rattle.mpd_policy.proofs.runs.go.Given as goal

abbrev pub invariant-loop-made : goal.invariant-loop-made
invariant-loop-made l = Going l.taking l.breaks l.max (standing_of l.fn.debugger) (standing_of l.debugger) l.made × IsReached (standing_of l.debugger)
