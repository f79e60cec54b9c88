use Rattle.std.proofs.Common.{◌≡◌, ◌≤◌, length, take, vec_capacity}
use Rattle.std.specs.List.{AllByRecursion}
use Rattle.mpd_model.specs.runs.Trail.{IsReached}
use Rattle.mpd_trail.specs.Run.{RunFrom, IsGiven, SameScript}
use Rattle.mpd_trail.specs.DebuggerViews.{place_of, standing_of}
use Rattle.mpd_trail.proofs.run.follow_with_room.Given as goal

abbrev pub invariant-loop-command : goal.invariant-loop-command
invariant-loop-command l = record {
  run : RunFrom l.fn.debugger.trail l.fn.debugger.writes (take l.command-index l.commands) l.answered.items (place_of l.debugger);
  given : AllByRecursion IsGiven l.answered.items;
  some : 1 ≤ l.debugger.room;
  script : SameScript l.fn.debugger.trail l.debugger.trail;
  reached : IsReached (standing_of l.debugger);
  counted : length l.answered.items ≡ l.command-index;
  room : length l.commands ≤ vec_capacity l.answered;
}
