-- Worked rows of what statements read. What is wanted was worked out by hand.
use Rattle.std.specs.Prelude.{◌≡◌, ℕ, ℤ, ◌+◌, pos, negsuc, map, List, [], ◌∷◌, Option, Some, None, codes, refl}
use Rattle.std.specs.List.{filter, range_with_len}
use Rattle.mpd_model.specs.declared.place.DeclKind.{DeclKind}
use Rattle.mpd_model.specs.declared.place.DeclKind.TheVariants.{Variable, Handle}
use Rattle.mpd_model.specs.declared.place.Place.{Place}
use Rattle.mpd_model.specs.declared.call.Activity.TheVariants.{Trapped}
use Rattle.mpd_model.specs.declared.call.Trap.TheVariants.{BadRank}
use Rattle.mpd_model.specs.declared.expr.BinaryOp.TheVariants.{And, Add, Divide}
use Rattle.mpd_model.specs.declared.expr.UnaryOp.TheVariants.{Negate}
use Rattle.mpd_model.specs.declared.stmt.SendStmt.{SendStmt}
use Rattle.mpd_model.specs.declared.stmt.RecvStmt.{RecvStmt}
use Rattle.mpd_model.specs.declared.stmt.Simple.TheVariants as st
use Rattle.mpd_model.specs.script.Declaration.{Declared}
use Rattle.mpd_model.specs.script.Term.{Term, lit, own_rank, size, cell, element, op1, op2, Target}
use Rattle.mpd_model.specs.script.Tree.{Tree, simple, branch, repeat, Block, no_more, then_more}
use Rattle.mpd_model.specs.script.Program.{Program}
use Rattle.mpd_model.specs.steps.World.{RankWorld}
use Rattle.mpd_names.specs.declared.holding.Holding.{Holding}
use Rattle.mpd_names.specs.declared.holding.Held.TheVariants.{Values, Calls}
use Rattle.mpd_names.specs.Held.{holdings_of}
use Rattle.mpd_names.specs.Reads.{statement_reads, reads_of}

abbrev decl : DeclKind → List ℕ → Option ℕ → Declared
decl kind name many = record { kind = kind; name = name; size = many }

-- the numbers of these declarations: var i; var b; var x; var a[3]; req r[2]; var z;
abbrev six : List Declared
six = decl Variable (codes "i") None ∷ decl Variable (codes "b") None ∷ decl Variable (codes "x") None ∷ decl Variable (codes "a") (Some 3) ∷ decl Handle (codes "r") (Some 2) ∷ decl Variable (codes "z") None ∷ []

abbrev place : ℕ → ℕ → ℕ → Place
place d first cells = record { declaration = d; first = first; cells = cells }

abbrev i : Term
i = cell (place 0 0 1)

abbrev x : Term
x = cell (place 2 2 1)

abbrev z : Term
z = cell (place 5 6 1)

abbrev n : ℕ → Term
n k = lit (pos k)

abbrev a : Term → Term
a index = element (place 3 3 3) index

-- places that are written, and handles
abbrev into_b : Target
into_b = record { place = place 1 1 1; index = None }

abbrev into_a : Term → Target
into_a index = record { place = place 3 3 3; index = Some index }

abbrev r : Term → Target
r index = record { place = place 4 0 2; index = Some index }

abbrev sent : SendStmt
sent = record { value = op1 Negate x; to = i; tag = n 5 }

abbrev received : RecvStmt
received = record { into = into_a z; from = Some i; tag = None; status = Some (record { source = into_b; tag = into_a x }) }

abbrev one : Tree → Block
one t = then_more t no_more

abbrev trees : List (Tree × List ℕ)
trees =
    (simple (st.Print (op2 Divide x z)), 2 ∷ 5 ∷ []) ∷ (simple (st.Print (op2 Add own_rank size)), []) ∷ (simple (st.Assert (op2 And (a (a i)) z)), 0 ∷ 3 ∷ 5 ∷ [])
    ∷ (simple (st.Assign (record { into = into_a i; value = x })), 0 ∷ 2 ∷ []) ∷ (simple (st.Assign (record { into = into_b; value = n 1 })), [])
    ∷ (simple (st.Send sent), 0 ∷ 2 ∷ []) ∷ (simple (st.Ssend (record sent { tag = z })), 0 ∷ 2 ∷ 5 ∷ [])
    ∷ (simple (st.Isend (record { request = r z; send = sent })), 0 ∷ 2 ∷ 5 ∷ []) ∷ (simple (st.Issend (record { request = r (n 1); send = sent })), 0 ∷ 2 ∷ [])
    ∷ (simple (st.Recv received), 0 ∷ 2 ∷ 5 ∷ []) ∷ (simple (st.Recv (record { into = into_b; from = None; tag = None; status = None })), [])
    ∷ (simple (st.Recv (record { into = into_b; from = None; tag = Some z; status = Some (record { source = into_a i; tag = into_b }) })), 0 ∷ 5 ∷ [])
    ∷ (simple (st.Irecv (record { request = r (a z); recv = received })), 0 ∷ 2 ∷ 3 ∷ 5 ∷ [])
    ∷ (simple (st.Wait (r i)), 0 ∷ []) ∷ (simple (st.Waitany (record { requests = place 4 0 2; into = into_a x })), 2 ∷ []) ∷ (simple st.Barrier, [])
    ∷ (branch i (one (simple (st.Print x))) (one (simple (st.Print z))), 0 ∷ []) ∷ (repeat (a z) (one (simple (st.Print x))), 3 ∷ 5 ∷ []) ∷ []

pub row_reads : map {B = List ℕ} (λ q. filter (λ d. statement_reads d q.0) (range_with_len 0 6)) trees ≡ map {B = List ℕ} (λ q. q.1) trees
row_reads = refl

-- ---- what ranks hold

abbrev program : Program
program = record { version = 1; ranks = 2; decls = six; body = []; lines = [] }

-- a rank whose variables are i, 1, 7, [0, 2, -3] and z, at some statements
abbrev rank_at : ℕ → List (ℕ × Tree) → RankWorld
rank_at k rest = record { rest = rest; vars = pos k ∷ pos 1 ∷ pos 7 ∷ pos 0 ∷ pos 2 ∷ negsuc 2 ∷ pos (k + 5) ∷ []; handles = None ∷ None ∷ []; out = []; activity = Trapped BadRank }

abbrev held : ℕ → List (ℕ × Tree) → List Holding
held p rest = reads_of program (Some (rank_at (3 + p) rest))

-- of the first statement alone, by rank 0 and rank 1
abbrev rests : List (List (ℕ × Tree))
rests = ((0, simple (st.Recv received)) ∷ (1, simple (st.Print (a i))) ∷ []) ∷ ((0, simple (st.Print (op2 Add (a x) i))) ∷ []) ∷ ((0, simple st.Barrier) ∷ (1, simple (st.Print x)) ∷ []) ∷ [] ∷ []

-- the values of the declaration of a number
abbrev has : ℕ → List ℤ → Holding
has d vs = record { declaration = d; held = Values vs }

pub row_held : map {B = List Holding} (held 0) rests
    ≡ (has 0 (pos 3 ∷ []) ∷ has 2 (pos 7 ∷ []) ∷ has 5 (pos 8 ∷ []) ∷ []) ∷ (has 0 (pos 3 ∷ []) ∷ has 2 (pos 7 ∷ []) ∷ has 3 (pos 0 ∷ pos 2 ∷ negsuc 2 ∷ []) ∷ []) ∷ [] ∷ [] ∷ []
row_held = refl

pub row_held_by_another : map {B = List Holding} (held 1) rests
    ≡ (has 0 (pos 4 ∷ []) ∷ has 2 (pos 7 ∷ []) ∷ has 5 (pos 9 ∷ []) ∷ []) ∷ (has 0 (pos 4 ∷ []) ∷ has 2 (pos 7 ∷ []) ∷ has 3 (pos 0 ∷ pos 2 ∷ negsuc 2 ∷ []) ∷ []) ∷ [] ∷ [] ∷ []
row_held_by_another = refl

-- all that a rank holds
pub row_holdings : holdings_of program (Some (rank_at 3 []))
    ≡ has 0 (pos 3 ∷ []) ∷ has 1 (pos 1 ∷ []) ∷ has 2 (pos 7 ∷ []) ∷ has 3 (pos 0 ∷ pos 2 ∷ negsuc 2 ∷ []) ∷ record { declaration = 4; held = Calls (None ∷ None ∷ []) } ∷ has 5 (pos 8 ∷ []) ∷ []
row_holdings = refl

-- a rank that isn't there
pub row_nobody : reads_of program None ≡ []
row_nobody = refl
