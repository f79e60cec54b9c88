use Rattle.std.proofs.Common.{◌≡◌, ◌≤◌, ◌++◌, length, reverse, vec_len}
use Rattle.std.specs.List.{AllByRecursion}
use Rattle.mpd_model.specs.runs.Decisions.{decision}
use Rattle.mpd_model.specs.runs.Trail.{IsReached, done_steps}
use Rattle.mpd_trail.specs.DebuggerViews.{standing_of}
use Rattle.mpd_explore.specs.Witness.{HasWitness}
use Rattle.mpd_explore.specs.Deadlocks.{leaves_told}
use Rattle.mpd_explore.proofs.deadlocks.leaves_told.Given as goal

abbrev pub invariant-loop-leaf : goal.invariant-loop-leaf
invariant-loop-leaf l = record {
  told : l.told.items ++ leaves_told (done_steps l.fn.debugger.trail) l.fuel l.fn.debugger.world (reverse l.rest.items) ≡ leaves_told (done_steps l.fn.debugger.trail) l.fuel l.fn.debugger.world l.fn.leaves.items;
  listed : AllByRecursion (HasWitness decision l.fn.debugger.trail.program l.fn.debugger.trail.mode (done_steps l.fn.debugger.trail) l.fuel l.fn.debugger.world) (reverse l.rest.items);
  few : length l.rest.items ≤ length l.fn.leaves.items;
  trail : l.debugger.trail ≡ l.fn.debugger.trail;
  world : l.debugger.world ≡ l.fn.debugger.world;
  reached : IsReached (standing_of l.debugger);
}

abbrev pub decreases-loop-leaf : goal.decreases-loop-leaf
decreases-loop-leaf l = vec_len l.rest
