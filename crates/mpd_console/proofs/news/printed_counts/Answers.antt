use Rattle.std.proofs.Common.{[], ◌∷◌, ◌++◌, slice_get, ap, ◌∙◌}
use Rattle.mpd_core.proofs.RangeLemmas.{given_more}
use Rattle.mpd_console.specs.News.{printed_count}
use Rattle.mpd_console.proofs.news.printed_counts.Goals as goal

pub loop-rank-preserved : goal.loop-rank-preserved
loop-rank-preserved c =
    given_more (λ p. printed_count (slice_get c.args.core.now.world.ranks p) ∷ []) c.loop-rank.rank c.rank_count-ranks.result c.loop-rank.counts.items _ _ c.loop-rank-test.true c.loop-rank.invariant
    (c.in_ok-push.ensures.items ∙ ap (λ n. c.loop-rank.counts.items ++ n ∷ []) c.printed_count.ensures)
