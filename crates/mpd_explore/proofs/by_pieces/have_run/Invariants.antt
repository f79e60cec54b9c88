use Rattle.std.proofs.Common.{◌≡◌, false, take}
use Rattle.mpd_model.specs.runs.Trail.{IsReached}
use Rattle.mpd_trail.specs.DebuggerViews.{standing_of}
use Rattle.mpd_explore.specs.Along.{have_run}
use Rattle.mpd_explore.proofs.by_pieces.have_run.Given as goal

abbrev pub invariant-loop-place : goal.invariant-loop-place
invariant-loop-place l = record {
  none : have_run l.limits l.fn.debugger.world (take l.place l.pieces) ≡ false;
  trail : l.debugger.trail ≡ l.fn.debugger.trail;
  world : l.debugger.world ≡ l.fn.debugger.world;
  reached : IsReached (standing_of l.debugger);
}
