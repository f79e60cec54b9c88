use Rattle.std.proofs.Common.{◌≡◌, ◌≤◌, length}
use Rattle.mpd_model.specs.runs.Trail.{IsReached}
use Rattle.mpd_trail.specs.DebuggerViews.{standing_of}
use Rattle.mpd_explore.specs.declared.splitter.TheConstants.{PIECES_MAX}
use Rattle.mpd_explore.specs.Pieces.{pieces, numbered}
use Rattle.mpd_explore.proofs.splitter.split_along.Given as goal

abbrev pub invariant-loop-choice : goal.invariant-loop-choice
invariant-loop-choice g l = record {
  made : l.made.items ≡ numbered 0 (pieces g.S.Schedule.decides l.choice l.fuel l.fn.debugger.world);
  few : length l.made.items ≤ PIECES_MAX;
  trail : l.debugger.trail ≡ l.fn.debugger.trail;
  world : l.debugger.world ≡ l.fn.debugger.world;
  reached : IsReached (standing_of l.debugger);
}
