use Rattle.std.proofs.Common.{length}
use Rattle.mpd_adapter.specs.Shelves.{variable}
use Rattle.mpd_session.proofs.LookLemmas.{mapped_more}
use Rattle.mpd_adapter.proofs.shelves.all_variables.Goals as goal

pub loop-cell-preserved : goal.loop-cell-preserved
loop-cell-preserved c =
    mapped_more (variable c.args.decls.now c.args.values.now) c.loop-cell.cell (length c.args.values.now) c.loop-cell.list.items _ _ c.in_ok-variable.field-0 c.loop-cell-test.true c.loop-cell.invariant c.in_ok-push.ensures.items
    c.in_ok-variable.ensures
