use Rattle.std.proofs.Common.{◌++◌, ap, ◌∙◌}
use Rattle.mpd_core.proofs.RangeLemmas.{given_more}
use Rattle.mpd_explain.specs.Waits.{listed, cycle, singles}
use Rattle.mpd_explain.proofs.waits.cycles.Goals as goal

pub loop-rank-preserved : goal.loop-rank-preserved
loop-rank-preserved c =
    let before = c.loop-rank.cycles.items in
    given_more (λ p. listed (cycle (singles c.args.core.now.world) p)) c.loop-rank.rank c.rank_count-count.result before _ _ c.loop-rank-test.true c.loop-rank.invariant
    (c.in_ok-push_cycle.ensures ∙ ap (λ o. before ++ listed o) (c.in_ok-cycle_at.ensures ∙ ap (λ next. cycle next c.loop-rank.rank) (c.deref.ensures.value ∙ c.in_ok-next.ensures)))
