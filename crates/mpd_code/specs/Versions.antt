-- Which nodes are of statements that version 1 has.
use Rattle.std.specs.Prelude.{Bool, true, false}
use Rattle.mpd_model.specs.declared.stmt.Simple.TheVariants as st
use Rattle.mpd_code.specs.declared.node.Node.{Node}
use Rattle.mpd_code.specs.declared.node.Action.{Action}
use Rattle.mpd_code.specs.declared.node.Action.TheVariants.{Simple}

abbrev pub is_first : Action → Bool
is_first (Simple (st.Waitany s)) = false
is_first action = true

abbrev pub is_of_first : Node → Bool
is_of_first node = is_first node.action
