use Rattle.std.proofs.Common.{◌≡◌, map, take}
use Rattle.serde_json.specs.View.{view}
use Rattle.mpd_dap.specs.Bodies.{mark_data}
use Rattle.mpd_dap.proofs.listed.mark_values.Given as goal

abbrev pub invariant-loop-mark : goal.invariant-loop-mark
invariant-loop-mark l = map view l.values.items ≡ map mark_data (take l.mark-index l.marks)
