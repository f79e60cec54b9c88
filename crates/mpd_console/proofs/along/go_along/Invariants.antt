use Rattle.mpd_trail.specs.DebuggerViews.{standing_of}
use Rattle.mpd_console.proofs.AlongLemmas.{Going}
use Rattle.mpd_console.proofs.along.go_along.Given as goal

abbrev pub invariant-loop-depth : goal.invariant-loop-depth
invariant-loop-depth l = Going l.breaks l.goal l.fn.debugger.trail (standing_of l.debugger) l._depth
