use Rattle.std.proofs.Common.{◌+◌, ◌||◌, false, drop, get_or, ap, ◌∙◌, arith}
use Rattle.std.proofs.lemmas.List.{drop_more}
use Rattle.mpd_model.specs.declared.call.Call.{Call}
use Rattle.mpd_model.specs.runs.Breakpoints.{is_number}
use Rattle.mpd_explain.specs.Lost.{target_of}
use Rattle.mpd_explain.proofs.LostLemmas.{kept_more}
use Rattle.mpd_explain.proofs.lost.keep_waited.Goals as goal

pub loop-call-preserved : goal.loop-call-preserved
loop-call-preserved c =
    let cs = c.args.calls.now in
    let n = c.loop-call.call-index in
    record {
      count = c.keep.ensures.count ∙ c.loop-call.invariant.count;
      kept = λ i h. kept_more (λ (x : Call). is_number (target_of x.kind) i) (drop n cs) (drop (n + 1) cs) _ (get_or c.loop-call.kept i false) _ _ (drop_more cs n _ c.loop-call-test.true)
          (c.keep.ensures.kept i (omega (arith, c.loop-call.invariant.count, h)) ∙ ap (λ t. get_or c.loop-call.kept i false || is_number t i) c.target_of.ensures) (c.loop-call.invariant.kept i h);
    }
