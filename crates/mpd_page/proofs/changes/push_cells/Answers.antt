use Rattle.std.proofs.Common.{length}
use Rattle.mpd_core.proofs.RangeLemmas.{given_more}
use Rattle.mpd_page.specs.Changes.{value_changed}
use Rattle.mpd_page.proofs.changes.push_cells.Goals as goal

pub loop-cell-preserved : goal.loop-cell-preserved
loop-cell-preserved c =
    given_more (value_changed c.args.rank c.args.was.now c.args.now.now) c.loop-cell.cell (length c.args.now.now) c.loop-cell.out.items _ _ c.loop-cell-test.true c.loop-cell.invariant c.in_ok-push_value.ensures
