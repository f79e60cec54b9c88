use Rattle.std.proofs.Common.{length}
use Rattle.mpd_adapter.specs.Shelves.{request}
use Rattle.mpd_session.proofs.LookLemmas.{mapped_more}
use Rattle.mpd_adapter.proofs.shelves.all_requests.Goals as goal

pub loop-cell-preserved : goal.loop-cell-preserved
loop-cell-preserved c =
    mapped_more (request c.args.decls.now c.args.rank c.args.handles.now) c.loop-cell.cell (length c.args.handles.now) c.loop-cell.list.items _ _ c.in_ok-request.field-0 c.loop-cell-test.true c.loop-cell.invariant c.in_ok-push.ensures.items
    c.in_ok-request.ensures
