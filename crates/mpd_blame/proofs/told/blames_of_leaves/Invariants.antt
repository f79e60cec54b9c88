use Rattle.std.proofs.Common.{◌≡◌, take}
use Rattle.mpd_model.specs.runs.Trail.{IsReached}
use Rattle.mpd_trail.specs.DebuggerViews.{standing_of}
use Rattle.mpd_blame.specs.Told.{AreJudged}
use Rattle.mpd_blame.proofs.told.blames_of_leaves.Given as goal

abbrev pub invariant-loop-leaf : goal.invariant-loop-leaf
invariant-loop-leaf l = record {
  trail : l.debugger.trail ≡ l.fn.debugger.trail;
  world : l.debugger.world ≡ l.fn.debugger.world;
  reached : IsReached (standing_of l.debugger);
  blames : AreJudged l.limits.visited l.limits.fuel (standing_of l.fn.debugger) (take l.leaf-index l.leaves) l.blames.items;
}
