use Rattle.std.proofs.Common.{ap, ◌∙◌, ◌++◌}
use Rattle.mpd_core.proofs.EnabledLemmas.{any_wakes_at, any_wakes, all_wakes_ahead}
use Rattle.mpd_core.proofs.RangeLemmas.{given_more, given_some, refused_with}
use Rattle.mpd_policy.proofs.wide.push_any_wakes.Goals as goal

pub loop-rank-init : goal.loop-rank-init
loop-rank-init c = all_wakes_ahead c.args.core.now.world c.rank_count-count.result c.args.steps.now.items c.rank_count-count.ensures.board ∙ ap (λ ys. ys ++ any_wakes c.args.core.now.world) c.requires

pub loop-rank-preserved : goal.loop-rank-preserved
loop-rank-preserved c =
    given_more (any_wakes_at c.args.core.now.world) c.loop-rank.rank c.rank_count-count.result c.loop-rank.steps.items _ _ c.loop-rank-test.true c.loop-rank.invariant c.in_ok-push_any_wakes_of.ensures.ok

pub returns-in_err-push_any_wakes_of-clause-memory : goal.returns-in_err-push_any_wakes_of-clause-memory
returns-in_err-push_any_wakes_of-clause-memory c =
    refused_with _ (given_some (any_wakes_at c.args.core.now.world) c.loop-rank.rank c.rank_count-count.result c.loop-rank.steps.items _ c.loop-rank-test.true c.loop-rank.invariant c.in_err-push_any_wakes_of.ensures.memory)
