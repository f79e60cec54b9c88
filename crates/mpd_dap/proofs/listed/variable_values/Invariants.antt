use Rattle.std.proofs.Common.{◌≡◌, map, take}
use Rattle.serde_json.specs.View.{view}
use Rattle.mpd_dap.specs.Bodies.{variable_data}
use Rattle.mpd_dap.proofs.listed.variable_values.Given as goal

abbrev pub invariant-loop-variable : goal.invariant-loop-variable
invariant-loop-variable l = map view l.values.items ≡ map variable_data (take l.variable-index l.variables)
