use Rattle.mpd_outcomes.specs.Keys.{free_words}
use Rattle.mpd_outcomes.proofs.PushLemmas.{given_more}
use Rattle.mpd_outcomes.proofs.key.push_all_free.Goals as goal

pub loop-index-preserved : goal.loop-index-preserved
loop-index-preserved c =
    given_more (free_words c.args.board.now.board c.args.rank) c.loop-index.index c.call_count-count.result c.loop-index.words.items _ _ c.loop-index-test.true c.loop-index.invariant c.in_ok-push_free.ensures
