use Rattle.mpd_outcomes.specs.Words.{sized}
use Rattle.mpd_outcomes.specs.Keys.{part_at}
use Rattle.mpd_outcomes.proofs.PushLemmas.{given_more}
use borrow.Author.Count.{below_more}
use Rattle.mpd_outcomes.proofs.key.push_ranks.Goals as goal

pub loop-rank-preserved : goal.loop-rank-preserved
loop-rank-preserved c = record {
  words = given_more (λ p. sized (part_at c.args.core.now.world p)) c.loop-rank.rank c.rank_count-count.result c.loop-rank.key.items _ _ c.loop-rank-test.true c.loop-rank.invariant.words c.in_ok-push_rank.ensures.words;
  placed = below_more _ _ c.loop-rank.invariant.placed c.in_ok-push_rank.ensures.placed;
}
