use Rattle.std.proofs.Common.{◌++◌, get_or, slice_get, ap, ◌∙◌}
use Rattle.mpd_core.proofs.RangeLemmas.{given_more}
use Rattle.mpd_console.specs.News.{printed_of}
use Rattle.mpd_console.proofs.news.printed_since.Goals as goal

pub loop-rank-preserved : goal.loop-rank-preserved
loop-rank-preserved c =
    given_more (λ p. printed_of p (get_or c.args.counts.now p 0) (slice_get c.args.core.now.world.ranks p)) c.loop-rank.rank c.rank_count-ranks.result c.loop-rank.list.items _ _ c.loop-rank-test.true c.loop-rank.invariant
    (c.in_ok-push_printed.ensures ∙ ap (λ n. c.loop-rank.list.items ++ printed_of c.loop-rank.rank n (slice_get c.args.core.now.world.ranks c.loop-rank.rank)) c.count_at.ensures)
