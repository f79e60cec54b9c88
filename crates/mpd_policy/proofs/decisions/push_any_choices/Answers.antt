use Rattle.std.proofs.Common.{rules}
use Rattle.mpd_policy.proofs.StepKinds.{any_passed}
use Rattle.mpd_policy.proofs.decisions.push_any_choices.Goals as goal

pub loop-rank-preserved : goal.loop-rank-preserved
loop-rank-preserved c =
    any_passed c.args.core.now.world c.loop-rank.rank c.rank_count-count.result c.loop-rank.steps.items c.push_any_wakes_of.new.out.items c.loop-rank-test.true c.loop-rank.invariant c.in_ok-push_any_wakes_of.ensures.ok (search rules)
