use Rattle.std.proofs.Common.{◌+◌, false, drop, get_or, ◌∙◌, arith}
use Rattle.std.proofs.lemmas.List.{drop_more}
use Rattle.mpd_model.specs.runs.Breakpoints.{is_number}
use Rattle.mpd_explain.proofs.LostLemmas.{kept_more}
use Rattle.mpd_explain.proofs.lost.keep_held.Goals as goal

pub loop-handle-preserved : goal.loop-handle-preserved
loop-handle-preserved c =
    let hs = c.args.handles.now in
    let n = c.loop-handle.handle-index in
    record {
      count = c.keep.ensures.count ∙ c.loop-handle.invariant.count;
      kept = λ i h. kept_more (λ x. is_number x i) (drop n hs) (drop (n + 1) hs) _ (get_or c.loop-handle.kept i false) _ _ (drop_more hs n _ c.loop-handle-test.true) (c.keep.ensures.kept i (omega (arith, c.loop-handle.invariant.count, h))) (c.loop-handle.invariant.kept i h);
    }
