use Rattle.std.proofs.Common.{◌≡◌, ◌≤◌, [], false, take, length}
use Rattle.mpd_model.specs.runs.Trail.{IsReached}
use Rattle.mpd_trail.specs.DebuggerViews.{standing_of}
use Rattle.mpd_explore.specs.declared.splitter.TheConstants.{PIECES_MAX}
use Rattle.mpd_explore.specs.Along.{Adds, all_longer, choices_of}
use Rattle.mpd_explore.proofs.splitter.grown.Given as goal

abbrev pub invariant-loop-piece : goal.invariant-loop-piece
invariant-loop-piece g l = record {
  adds : Adds [] (all_longer g.S.Schedule.decides l.fuel l.fn.debugger.world (take l.piece-index l.from)) l.made.items;
  few : length l.made.items ≤ PIECES_MAX;
  still : l.grows ≡ false → all_longer g.S.Schedule.decides l.fuel l.fn.debugger.world (take l.piece-index l.from) ≡ choices_of (take l.piece-index l.from);
  trail : l.debugger.trail ≡ l.fn.debugger.trail;
  world : l.debugger.world ≡ l.fn.debugger.world;
  reached : IsReached (standing_of l.debugger);
}
