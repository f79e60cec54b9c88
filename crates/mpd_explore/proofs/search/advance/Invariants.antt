use Rattle.std.proofs.Common.{◌≡◌, ◌≤◌, reverse, vec_len}
use Rattle.mpd_trail.specs.Run.{first_of}
use Rattle.mpd_trail.specs.DebuggerViews.{standing_of}
use Rattle.mpd_explore.specs.Search.{Safe, At, search_by, after, states_left}
use Rattle.mpd_explore.proofs.search.advance.Given as goal

abbrev pub invariant-loop-top : goal.invariant-loop-top
invariant-loop-top g l =
    let s = search_by g.S.Schedule.decides g.S.Schedule.same g.S.Schedule.keeps l.bounds (first_of l.fn.debugger.trail) in
    record {
      at : At s (reverse l.frontier.stack.items) (standing_of l.debugger);
      same : after s (reverse l.fn.frontier.stack.items) (standing_of l.fn.debugger) ≡ after s (reverse l.frontier.stack.items) (standing_of l.debugger);
      fewer : states_left s (reverse l.frontier.stack.items) (standing_of l.debugger) ≤ states_left s (reverse l.fn.frontier.stack.items) (standing_of l.fn.debugger);
      safe : Safe l.bounds.base (standing_of l.fn.debugger) (standing_of l.debugger);
    }

abbrev pub decreases-loop-top : goal.decreases-loop-top
decreases-loop-top g l = vec_len l.frontier.stack
