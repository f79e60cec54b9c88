use Rattle.std.proofs.Common.{◌≡◌, map, take, string_bytes}
use Rattle.mpd_model.specs.runs.Trail.{done_steps, IsReached}
use Rattle.mpd_trail.specs.DebuggerViews.{standing_of}
use Rattle.mpd_explore.specs.WitnessTexts.{witness_text}
use Rattle.mpd_check.proofs.shown.witnesses_of.Given as goal

abbrev pub invariant-loop-leaf : goal.invariant-loop-leaf
invariant-loop-leaf g l = record {
  trail : l.debugger.trail ≡ l.fn.debugger.trail;
  world : l.debugger.world ≡ l.fn.debugger.world;
  reached : IsReached (standing_of l.debugger);
  texts : map string_bytes l.texts.items ≡ map (witness_text g.S.Schedule.decides l.limits.witnesses (done_steps l.fn.debugger.trail) l.limits.fuel l.fn.debugger.world) (take l.leaf-index l.leaves);
}
