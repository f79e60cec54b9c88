use Rattle.std.proofs.Common.{◌≡◌, take}
use Rattle.mpd_model.specs.runs.Trail.{IsReached}
use Rattle.mpd_trail.specs.DebuggerViews.{standing_of}
use Rattle.mpd_diagnose.specs.Diagnosed.{AreBlamed}
use Rattle.mpd_diagnose.proofs.diagnosis.blames_of.Given as goal

abbrev pub invariant-loop-group : goal.invariant-loop-group
invariant-loop-group l = record {
  trail : l.debugger.trail ≡ l.fn.debugger.trail;
  world : l.debugger.world ≡ l.fn.debugger.world;
  reached : IsReached (standing_of l.debugger);
  blames : AreBlamed l.limits (standing_of l.fn.debugger) l.leaves (take l.group-index l.groups) l.blames.items;
}
