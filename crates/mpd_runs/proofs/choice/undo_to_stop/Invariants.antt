use Rattle.mpd_trail.specs.DebuggerViews.{standing_of}
use Rattle.mpd_runs.proofs.LastChoiceLemmas.{Undoing}
use Rattle.mpd_runs.proofs.choice.undo_to_stop.Given as goal

abbrev pub invariant-loop-undone : goal.invariant-loop-undone
invariant-loop-undone l = Undoing l.breaks l.fn.debugger.trail (standing_of l.debugger) l.undone
