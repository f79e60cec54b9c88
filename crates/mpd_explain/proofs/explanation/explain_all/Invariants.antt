use Rattle.std.proofs.Common.{◌≡◌, ◌++◌, drop}
use Rattle.std.specs.List.{AllByRecursion}
use Rattle.mpd_model.specs.runs.Trail.{done_steps, IsReached}
use Rattle.mpd_trail.specs.DebuggerViews.{standing_of}
use Rattle.mpd_explore.specs.Witness.{HasWitness}
use Rattle.mpd_explain.specs.Explanations.{ends_of_leaves}
use Rattle.mpd_explain.proofs.explanation.explain_all.Given as goal

abbrev pub invariant-loop-leaf : goal.invariant-loop-leaf
invariant-loop-leaf g l =
    let t = l.fn.debugger.trail in
    let w = l.fn.debugger.world in
    record {
      trail : l.debugger.trail ≡ t;
      world : l.debugger.world ≡ w;
      reached : IsReached (standing_of l.debugger);
      listed : AllByRecursion (HasWitness g.S.Schedule.decides t.program t.mode (done_steps t) l.fuel w) (drop l.leaf-index l.fn.leaves);
      ends : l.ends.items ++ ends_of_leaves g.S.Schedule.decides t.program t.mode (done_steps t) l.fuel w (drop l.leaf-index l.fn.leaves) ≡ ends_of_leaves g.S.Schedule.decides t.program t.mode (done_steps t) l.fuel w l.fn.leaves;
    }
