use Rattle.std.proofs.Common.{◌≡◌, List, ◌∷◌, [], ◌++◌, Option, subst, sym, ◌∙◌, take, ◌+◌}
use Rattle.mpd_model.specs.runs.Trail.{Standing}
use Rattle.mpd_trail.specs.DebuggerViews.{standing_of}
use Rattle.mpd_blame.specs.declared.told.PlacedBlame.{PlacedBlame}
use Rattle.mpd_blame.specs.Told.{IsJudged, AreJudged}
use Rattle.mpd_blame.proofs.ToldLemmas.{zipped_more, standing_same}
use Rattle.mpd_blame.proofs.told.blames_of_leaves.Goals as goal

pub loop-leaf-preserved : goal.loop-leaf-preserved
loop-leaf-preserved c =
    let i = c.loop-leaf.invariant in
    let d = standing_of c.args.debugger.now in
    let blame = c.in_ok-blame.blame in
    let same = standing_same c.args.debugger.now c.loop-leaf.debugger i.trail i.world in
    let here = subst (λ (s : Standing). IsJudged c.args.limits.visited c.args.limits.fuel s c.leaf-item.result blame) same c.in_ok-blame.ensures.blamed in
    record {
      trail = c.blame_of_leaf.ensures.as_found.trail ∙ i.trail;
      world = c.blame_of_leaf.ensures.as_found.world ∙ i.world;
      reached = c.blame_of_leaf.ensures.as_found.reached;
      blames =
          subst (λ (bs : List (Option PlacedBlame)). AreJudged c.args.limits.visited c.args.limits.fuel d (take (c.loop-leaf.leaf-index + 1) c.args.leaves.now) bs) (sym c.in_ok-push.ensures.items)
          (zipped_more (IsJudged c.args.limits.visited c.args.limits.fuel d) c.args.leaves.now c.loop-leaf.blames.items c.loop-leaf.leaf-index c.leaf-item.result blame c.loop-leaf-test.true c.leaf-item.is here i.blames);
    }
