use Rattle.std.proofs.Common.{◌++◌, ap, ◌∙◌, sym}
use Rattle.mpd_core.proofs.RangeLemmas.{given_more}
use Rattle.mpd_console.specs.Values.{value_at}
use Rattle.mpd_console.proofs.values.values_of_all.Goals as goal

pub loop-rank-preserved : goal.loop-rank-preserved
loop-rank-preserved c =
    given_more (value_at c.args.core.now.program c.args.core.now.world c.args.expr.now) c.loop-rank.rank c.rank_count-count.result c.loop-rank.values.items _ _ c.loop-rank-test.true c.loop-rank.invariant
    (c.in_ok-push.ensures.items ∙ ap (λ xs. c.loop-rank.values.items ++ xs) (sym c.value_at.ensures))
