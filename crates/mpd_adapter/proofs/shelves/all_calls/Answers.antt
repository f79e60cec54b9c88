use Rattle.mpd_adapter.specs.Shelves.{call}
use Rattle.mpd_session.proofs.LookLemmas.{mapped_more}
use Rattle.mpd_adapter.proofs.shelves.all_calls.Goals as goal

pub loop-index-preserved : goal.loop-index-preserved
loop-index-preserved c =
    mapped_more (call c.args.core.now.world.board c.args.rank) c.loop-index.index c.call_count-count.result c.loop-index.list.items _ _ c.in_ok-call.field-0 c.loop-index-test.true c.loop-index.invariant c.in_ok-push.ensures.items
    c.in_ok-call.ensures
