use Rattle.mpd_model.specs.runs.Trail.{IsReached}
use Rattle.mpd_trail.specs.DebuggerViews.{standing_of}
use Rattle.mpd_policy.proofs.BackLemmas.{Backing}
use Rattle.mpd_policy.proofs.runs.run_back.Given as goal

abbrev pub invariant-loop-undone : goal.invariant-loop-undone
invariant-loop-undone l = Backing l.breaks (standing_of l.fn.debugger) (standing_of l.debugger) l.undone × IsReached (standing_of l.debugger)
