use Rattle.std.proofs.Common.{◌≡◌, ◌++◌, map, drop}
use Rattle.mpd_model.specs.runs.Trail.{done_steps, IsReached}
use Rattle.mpd_trail.specs.DebuggerViews.{standing_of}
use Rattle.std.specs.List.{AllByRecursion}
use Rattle.mpd_policy.specs.Wide.{wide_decision}
use Rattle.mpd_explore.specs.Witness.{HasWitness}
use Rattle.mpd_diagnose.specs.Causes.{leaf_end}
use Rattle.mpd_diagnose.proofs.along.ends_of.Given as goal

abbrev pub invariant-loop-leaf : goal.invariant-loop-leaf
invariant-loop-leaf l = record {
  trail : l.debugger.trail ≡ l.fn.debugger.trail;
  world : l.debugger.world ≡ l.fn.debugger.world;
  reached : IsReached (standing_of l.debugger);
  ends : l.ends.items ++ map (leaf_end l.fn.debugger.trail.program l.fuel l.fn.debugger.world) (drop l.leaf-index l.leaves) ≡ map (leaf_end l.fn.debugger.trail.program l.fuel l.fn.debugger.world) l.leaves;
  listed : AllByRecursion (HasWitness wide_decision l.fn.debugger.trail.program l.fn.debugger.trail.mode (done_steps l.fn.debugger.trail) l.fuel l.fn.debugger.world) (drop l.leaf-index l.leaves);
}
