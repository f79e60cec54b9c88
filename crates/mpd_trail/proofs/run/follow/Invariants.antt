use Rattle.std.proofs.Common.{◌≡◌, ◌≤◌, length, take, vec_capacity}
use Rattle.mpd_model.specs.runs.Trail.{IsReached}
use Rattle.mpd_trail.specs.Run.{Run, SameScript}
use Rattle.mpd_trail.specs.DebuggerViews.{place_of, standing_of}
use Rattle.mpd_trail.proofs.run.follow.Given as goal

abbrev pub invariant-loop-command : goal.invariant-loop-command
invariant-loop-command l = record {
  run : Run (place_of l.fn.debugger) (take l.command-index l.commands) l.replies.items (place_of l.debugger);
  script : SameScript l.fn.debugger.trail l.debugger.trail;
  reached : IsReached (standing_of l.debugger);
  counted : length l.replies.items ≡ l.command-index;
  room : length l.commands ≤ vec_capacity l.replies;
}
