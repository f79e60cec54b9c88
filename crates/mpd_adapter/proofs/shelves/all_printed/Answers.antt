use Rattle.std.proofs.Common.{length}
use Rattle.mpd_adapter.specs.Shelves.{printed}
use Rattle.mpd_session.proofs.LookLemmas.{mapped_more}
use Rattle.mpd_adapter.proofs.shelves.all_printed.Goals as goal

pub loop-place-preserved : goal.loop-place-preserved
loop-place-preserved c =
    mapped_more (printed c.args.values.now) c.loop-place.place (length c.args.values.now) c.loop-place.list.items _ _ c.in_ok-printed.field-0 c.loop-place-test.true c.loop-place.invariant c.in_ok-push.ensures.items
    c.in_ok-printed.ensures
