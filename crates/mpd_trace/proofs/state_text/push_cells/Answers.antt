use Rattle.mpd_trace.proofs.CellTexts.{cells_printed}
use Rattle.mpd_trace.proofs.state_text.push_cells.Goals as goal

pub returns : goal.returns
returns c =
    cells_printed _ _ _ _ _ _ _ _ _ c.rank-state.ensures.world c.variables.ensures c.handles.ensures c.output.ensures
    c.in_ok-push_values.ensures c.in_ok-push_handles.ensures c.in_ok-push_values-2.ensures
