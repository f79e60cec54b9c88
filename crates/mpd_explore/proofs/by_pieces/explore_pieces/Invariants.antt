use Rattle.std.proofs.Common.{◌≡◌, true, false, take, map, string_bytes}
use Rattle.mpd_model.specs.runs.Trail.{done_steps, IsReached}
use Rattle.mpd_trail.specs.DebuggerViews.{standing_of}
use Rattle.mpd_explore.specs.Report.{any_bad}
use Rattle.mpd_explore.specs.Sleeping.{decides_by}
use Rattle.mpd_explore.specs.WitnessTexts.{witness_texts}
use Rattle.mpd_explore.specs.Along.{parts, has_more}
use Rattle.mpd_explore.proofs.by_pieces.explore_pieces.Given as goal

abbrev pub invariant-loop-place : goal.invariant-loop-place
invariant-loop-place g l = record {
  leaves : l.report.leaves.items ≡ parts l.limits l.fn.debugger.world (take l.place l.pieces);
  more : l.report.more ≡ has_more l.limits l.fn.debugger.world (take l.place l.pieces);
  texts : map string_bytes l.report.witnesses.items ≡ witness_texts (decides_by l.limits.ends) l.limits.witnesses (done_steps l.fn.debugger.trail) l.limits.fuel l.fn.debugger.world l.report.leaves.items;
  good : l.limits.until_bad ≡ true → any_bad l.report.leaves.items ≡ false;
  trail : l.debugger.trail ≡ l.fn.debugger.trail;
  world : l.debugger.world ≡ l.fn.debugger.world;
  reached : IsReached (standing_of l.debugger);
}
