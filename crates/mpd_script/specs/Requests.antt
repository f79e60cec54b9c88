-- A send or a receive, by the handle that gets its request, if there is one; a send also by whether it is synchronous.
use Rattle.std.specs.Prelude.{Bool, true, false, List, [], ◌∷◌, Option, Some, None}
use Rattle.mpd_model.specs.declared.stmt.RecvStmt.{RecvStmt}
use Rattle.mpd_model.specs.declared.stmt.SendStmt.{SendStmt}
use Rattle.mpd_model.specs.declared.stmt.Simple.{Simple}
use Rattle.mpd_model.specs.declared.stmt.Simple.TheVariants as st
use Rattle.mpd_model.specs.declared.token.Symbol.TheVariants as m
use Rattle.mpd_model.specs.script.Parts.{Hole, symbol_hole, term_hole, source_hole, status_hole}
use Rattle.mpd_model.specs.script.Term.{Target}

abbrev pub send_of : Bool → Option Target → SendStmt → Simple
send_of false None s = st.Send s
send_of false (Some t) s = st.Isend (record { request = t; send = s })
send_of true None s = st.Ssend s
send_of true (Some t) s = st.Issend (record { request = t; send = s })

abbrev pub recv_of : Option Target → RecvStmt → Simple
recv_of None s = st.Recv s
recv_of (Some t) s = st.Irecv (record { request = t; recv = s })

-- what follows the value of a send, the place that a receive writes, and its source
abbrev pub to_holes : List Hole
to_holes = symbol_hole m.To ∷ term_hole ∷ symbol_hole m.Tag ∷ term_hole ∷ []

abbrev pub from_holes : List Hole
from_holes = symbol_hole m.From ∷ source_hole ∷ symbol_hole m.Tag ∷ source_hole ∷ status_hole ∷ []

abbrev pub tag_holes : List Hole
tag_holes = symbol_hole m.Tag ∷ source_hole ∷ status_hole ∷ []
