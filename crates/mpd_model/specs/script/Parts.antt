-- What is written of a statement that holds no other, part by part in text order. Behind the last part stands a `;`.
use Rattle.std.specs.Prelude.{List, [], ◌∷◌, Option, Some, None}
use Rattle.mpd_model.specs.declared.place.DeclKind.{DeclKind}
use Rattle.mpd_model.specs.declared.place.DeclKind.TheVariants.{Variable, Handle}
use Rattle.mpd_model.specs.declared.place.Place.{Place}
use Rattle.mpd_model.specs.declared.stmt.RecvStmt.{RecvStmt}
use Rattle.mpd_model.specs.declared.stmt.StatusStmt.{StatusStmt}
use Rattle.mpd_model.specs.declared.stmt.SendStmt.{SendStmt}
use Rattle.mpd_model.specs.declared.stmt.Simple.{Simple}
use Rattle.mpd_model.specs.declared.stmt.Simple.TheVariants as st
use Rattle.mpd_model.specs.declared.token.Symbol.{Symbol}
use Rattle.mpd_model.specs.declared.token.Symbol.TheVariants as m
use Rattle.mpd_model.specs.script.Term.{Term, Target}

pub data Part : Type 0 where
  -- a sign or a reserved word
  of_symbol : Symbol → Part
  -- an expression that stands in no other
  of_term : Term → Part
  -- a variable or a handle that stands in no expression
  of_target : DeclKind → Target → Part
  -- a declaration by its name alone, whether it has a size or not
  of_name : DeclKind → Place → Part

-- what a send sends, to whom and with which tag
abbrev pub send_parts : SendStmt → List Part
send_parts s = of_term s.value ∷ of_symbol m.To ∷ of_term s.to ∷ of_symbol m.Tag ∷ of_term s.tag ∷ []

-- a source or a tag
abbrev pub source_part : Option Term → Part
source_part None = of_symbol m.Any
source_part (Some e) = of_term e

-- a status before other parts: the places of the source and of the tag
abbrev pub status_parts : Option StatusStmt → List Part → List Part
status_parts None ps = ps
status_parts (Some s) ps = of_symbol m.Status ∷ of_target Variable s.source ∷ of_target Variable s.tag ∷ ps

-- where a receive writes, from whom it takes and with which tag, and where it writes that
abbrev pub recv_parts : RecvStmt → List Part
recv_parts s = of_target Variable s.into ∷ of_symbol m.From ∷ source_part s.from ∷ of_symbol m.Tag ∷ source_part s.tag ∷ status_parts s.status []

abbrev pub parts_of : Simple → List Part
parts_of (st.Print e) = of_symbol m.Print ∷ of_term e ∷ []
parts_of (st.Assign s) = of_target Variable s.into ∷ of_symbol m.Assign ∷ of_term s.value ∷ []
parts_of (st.Assert e) = of_symbol m.Assert ∷ of_term e ∷ []
parts_of (st.Send s) = of_symbol m.Send ∷ send_parts s
parts_of (st.Ssend s) = of_symbol m.Ssend ∷ send_parts s
parts_of (st.Recv s) = of_symbol m.Recv ∷ recv_parts s
parts_of (st.Isend s) = of_symbol m.Isend ∷ of_target Handle s.request ∷ send_parts s.send
parts_of (st.Issend s) = of_symbol m.Issend ∷ of_target Handle s.request ∷ send_parts s.send
parts_of (st.Irecv s) = of_symbol m.Irecv ∷ of_target Handle s.request ∷ recv_parts s.recv
parts_of (st.Wait t) = of_symbol m.Wait ∷ of_target Handle t ∷ []
parts_of (st.Waitany s) = of_symbol m.Waitany ∷ of_name Handle s.requests ∷ of_symbol m.To ∷ of_target Variable s.into ∷ []
parts_of st.Barrier = of_symbol m.Barrier ∷ []

-- ---- before it is read: the symbol that must come next, or a hole for what comes

pub data Hole : Type 0 where
  symbol_hole : Symbol → Hole
  term_hole : Hole
  target_hole : DeclKind → Hole
  name_hole : DeclKind → Hole
  -- `any`, or an expression
  source_hole : Hole
  -- `status` and two places, or nothing
  status_hole : Hole

-- what is read in the holes
abbrev pub Contents : List Hole → Type 0
Contents [] = Unit {0}
Contents (symbol_hole k ∷ hs) = Contents hs
Contents (term_hole ∷ hs) = Term × Contents hs
Contents (target_hole kind ∷ hs) = Target × Contents hs
Contents (name_hole kind ∷ hs) = Place × Contents hs
Contents (source_hole ∷ hs) = Option Term × Contents hs
Contents (status_hole ∷ hs) = Option StatusStmt × Contents hs

abbrev pub filled : (hs : List Hole) → Contents hs → List Part
filled [] c = []
filled (symbol_hole k ∷ hs) c = of_symbol k ∷ filled hs c
filled (term_hole ∷ hs) c = of_term c.0 ∷ filled hs c.1
filled (target_hole kind ∷ hs) c = of_target kind c.0 ∷ filled hs c.1
filled (name_hole kind ∷ hs) c = of_name kind c.0 ∷ filled hs c.1
filled (source_hole ∷ hs) c = source_part c.0 ∷ filled hs c.1
filled (status_hole ∷ hs) c = status_parts c.0 (filled hs c.1)
