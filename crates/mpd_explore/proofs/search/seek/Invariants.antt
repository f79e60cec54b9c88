use Rattle.std.proofs.Common.{◌≡◌, reverse}
use Rattle.mpd_trail.specs.Run.{first_of}
use Rattle.mpd_trail.specs.DebuggerViews.{standing_of}
use Rattle.mpd_explore.specs.Search.{Safe, At, search_by, come, states_here}
use Rattle.mpd_explore.proofs.search.seek.Given as goal

abbrev pub invariant-loop-ending : goal.invariant-loop-ending
invariant-loop-ending g l =
    let s = search_by g.S.Schedule.decides g.S.Schedule.same g.S.Schedule.keeps l.bounds (first_of l.fn.debugger.trail) in
    record {
      at : At s (reverse l.frontier.stack.items) (standing_of l.debugger);
      same : come s (reverse l.fn.frontier.stack.items) l.fn.frontier.asleep (standing_of l.fn.debugger) ≡ come s (reverse l.frontier.stack.items) l.frontier.asleep (standing_of l.debugger);
      safe : Safe l.bounds.base (standing_of l.fn.debugger) (standing_of l.debugger);
    }

abbrev pub decreases-loop-ending : goal.decreases-loop-ending
decreases-loop-ending g l = states_here (search_by g.S.Schedule.decides g.S.Schedule.same g.S.Schedule.keeps l.bounds (first_of l.fn.debugger.trail)) (reverse l.frontier.stack.items) (standing_of l.debugger)
