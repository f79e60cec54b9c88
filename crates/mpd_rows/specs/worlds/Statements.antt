-- Statements that hold no other, as trees.
use Rattle.std.specs.Prelude.{Option, Some, None}
use Rattle.std.specs.Option.{option_map}
use Rattle.mpd_model.specs.declared.place.Place.{Place}
use Rattle.mpd_model.specs.declared.stmt.RecvStmt.{RecvStmt}
use Rattle.mpd_model.specs.declared.stmt.Simple.TheVariants as st
use Rattle.mpd_model.specs.script.Term.{Term, Target}
use Rattle.mpd_model.specs.script.Tree.{Tree, simple}

abbrev pub print : Term → Tree
print e = simple (st.Print e)

abbrev pub assign : Target → Term → Tree
assign into value = simple (st.Assign (record { into = into; value = value }))

abbrev pub check : Term → Tree
check e = simple (st.Assert e)

abbrev pub send : Term → Term → Term → Tree
send value to tag = simple (st.Send (record { value = value; to = to; tag = tag }))

abbrev pub ssend : Term → Term → Term → Tree
ssend value to tag = simple (st.Ssend (record { value = value; to = to; tag = tag }))

-- a receive from any source or of any tag where none is given, with the places of a status, if it has one
abbrev pub taking : Target → Option Term → Option Term → Option (Target × Target) → RecvStmt
taking into source tag status = record { into = into; from = source; tag = tag; status = option_map (λ s. record { source = s.0; tag = s.1 }) status }

abbrev pub recv : Target → Term → Term → Tree
recv into source tag = simple (st.Recv (taking into (Some source) (Some tag) None))

abbrev pub recv_any : Target → Option Term → Option Term → Option (Target × Target) → Tree
recv_any into source tag status = simple (st.Recv (taking into source tag status))

abbrev pub isend : Target → Term → Term → Term → Tree
isend request value to tag = simple (st.Isend (record { request = request; send = record { value = value; to = to; tag = tag } }))

abbrev pub issend : Target → Term → Term → Term → Tree
issend request value to tag = simple (st.Issend (record { request = request; send = record { value = value; to = to; tag = tag } }))

abbrev pub irecv : Target → Target → Term → Term → Tree
irecv request into source tag = simple (st.Irecv (record { request = request; recv = taking into (Some source) (Some tag) None }))

abbrev pub irecv_any : Target → Target → Option Term → Option Term → Option (Target × Target) → Tree
irecv_any request into source tag status = simple (st.Irecv (record { request = request; recv = taking into source tag status }))

abbrev pub wait : Target → Tree
wait request = simple (st.Wait request)

abbrev pub waitany : Place → Target → Tree
waitany requests into = simple (st.Waitany (record { requests = requests; into = into }))

abbrev pub barrier : Tree
barrier = simple st.Barrier
