use Rattle.std.proofs.Common.{◌++◌, ap, ◌∙◌}
use Rattle.mpd_core.proofs.RangeLemmas.{given_more}
use Rattle.mpd_explain.specs.Waits.{after, step_ranks}
use Rattle.mpd_explain.proofs.waits.ring.Goals as goal

pub loop-past-preserved : goal.loop-past-preserved
loop-past-preserved c =
    let before = c.loop-past.ranks.items in
    given_more (λ k. step_ranks (after c.args.next.now c.args.rank k)) c.loop-past.past c.args.count before _ _ c.loop-past-test.true c.loop-past.invariant
    (c.in_ok-push_step.ensures ∙ ap (λ o. before ++ step_ranks o) c.after.ensures)
