use Rattle.std.proofs.Common.{[], ◌∷◌}
use Rattle.mpd_model.specs.steps.World.{call_id}
use Rattle.mpd_explain.specs.Lost.{is_lost}
use Rattle.mpd_explain.proofs.ListLemmas.{passed_more}
use Rattle.mpd_explain.proofs.lost.list_lost_of.Goals as goal

pub loop-index-preserved : goal.loop-index-preserved
loop-index-preserved c =
    passed_more (λ i. is_lost c.args.core.now.world (call_id c.args.rank i)) (λ i. call_id c.args.rank i ∷ []) c.loop-index.index _ c.loop-index.calls.items _ _ c.loop-index-test.true c.loop-index.invariant c.in_ok-list_if_lost.ensures
