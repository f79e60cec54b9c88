-- Worked rows of ends. What is wanted was worked out by hand.
use Rattle.std.specs.Prelude.{◌≡◌, ℕ, pos, Bool, true, false, map, List, [], ◌∷◌, Option, Some, None, codes, refl}
use Rattle.mpd_model.specs.declared.place.DeclKind.TheVariants.{Variable, Handle}
use Rattle.mpd_model.specs.declared.expr.BinaryOp.TheVariants.{Equal, Divide}
use Rattle.mpd_model.specs.declared.call.Mode.TheVariants.{Rendezvous, Buffered}
use Rattle.mpd_model.specs.declared.call.CallKind.{CallKind}
use Rattle.mpd_model.specs.declared.call.CallKind.TheVariants as on
use Rattle.mpd_model.specs.declared.call.Trap.TheVariants.{ZeroDivisor}
use Rattle.mpd_model.specs.declared.stmt.Simple.TheVariants as st
use Rattle.mpd_model.specs.script.Declaration.{Declared}
use Rattle.mpd_model.specs.script.Term.{Term, lit, own_rank, cell, op2, Target}
use Rattle.mpd_model.specs.script.Tree.{Tree, simple, branch, no_more, then_more}
use Rattle.mpd_model.specs.script.Program.{Program}
use Rattle.mpd_model.specs.steps.World.{call_id, start}
use Rattle.mpd_model.specs.runs.Decisions.{decision}
use Rattle.mpd_names.specs.declared.holding.Held.TheVariants.{Values}
use Rattle.mpd_names.specs.declared.place.PlacedCall.{PlacedCall}
use Rattle.mpd_names.specs.declared.place.Stands.TheVariants as at
use Rattle.mpd_names.specs.Stand.{all_stands}
use Rattle.mpd_policy.specs.Walk.{Run, walk}
use Rattle.mpd_explain.specs.declared.near_miss.Miss.{Miss}
use Rattle.mpd_explain.specs.declared.near_miss.Miss.TheVariants.{Tag}
use Rattle.mpd_explain.specs.declared.near_miss.Wish.{Wish}
use Rattle.mpd_explain.specs.declared.ends.AwaitedRank.{AwaitedRank}
use Rattle.mpd_explain.specs.declared.ends.Wait.{Wait}
use Rattle.mpd_explain.specs.declared.ends.End.{End}
use Rattle.mpd_explain.specs.declared.ends.End.TheVariants as the_end
use Rattle.mpd_explain.specs.Waits.{round, cycle}
use Rattle.mpd_explain.specs.Explanations.{end_after}

abbrev n : ℕ → Term
n k = lit (pos k)

abbrev x : Target
x = record { place = record { declaration = 0; first = 0; cells = 1 }; index = None }

abbrev one_variable : List Declared
one_variable = record { kind = Variable; name = codes "x"; size = None } ∷ []

abbrev recv : Option Term → Option Term → Tree
recv source tag = simple (st.Recv (record { into = x; from = source; tag = tag; status = None }))

-- call i of rank p, issued at this line
abbrev placed : ℕ → ℕ → ℕ → CallKind → PlacedCall
placed p i line kind = record { call = call_id p i; line = line; kind = Some kind }

abbrev received : Option ℕ → Option ℕ → Bool → CallKind
received source tag blocks = on.Recv (record { from = source; tag = tag; cell = 0; status = None; blocks = blocks })

abbrev sent : ℕ → ℕ → ℕ → Bool → Bool → CallKind
sent to tag value blocks buffered = on.Send (record { to = to; tag = tag; value = pos value; synchronous = false; blocks = blocks; buffered = buffered })

abbrev bare : PlacedCall → Wish
bare c = record { call = c; nearest = None; taken = None }

abbrev near : PlacedCall → PlacedCall → Miss → Wish
near c d miss = record { call = c; nearest = Some (record { call = d; miss = miss }); taken = None }

-- whom a rank waits for, and whether it has ended
abbrev rank_that : ℕ → Bool → List AwaitedRank
rank_that q ended = record { rank = q; has_ended = ended } ∷ []

abbrev wait : Wish → List Wish → List AwaitedRank → Wait
wait wish requests awaited = record { wish = wish; requests = requests; absent = []; awaited = awaited }

-- the if on line 4, two receives on lines 5 and 6, a send on line 8
-- if rank == 0 { recv x from any tag any; recv x from 1 tag 7; } else { send 42 to 0 tag 7; }
abbrev stolen : Program
stolen = record {
  version = 1;
  ranks = 2;
  decls = one_variable;
  body = branch (op2 Equal own_rank (n 0)) (then_more (recv None None) (then_more (recv (Some (n 1)) (Some (n 7))) no_more)) (then_more (simple (st.Send (record { value = n 42; to = n 0; tag = n 7 }))) no_more) ∷ [];
  lines = 4 ∷ 5 ∷ 6 ∷ 8 ∷ [];
}

pub row_stolen : map {B = End} (λ (r : Run). end_after stolen Rendezvous r.steps r.ending) (walk 20 (start stolen Rendezvous)) ≡ the_end.Deadlock
    (wait (record { call = placed 0 1 6 (received (Some 1) (Some 7) true); nearest = None; taken = Some (record { call = placed 1 0 8 (sent 0 7 42 true false); by = placed 0 0 5 (received None None true) }) }) [] (rank_that 1 true) ∷ []) [] [] ∷ []
unfolding walk decision
row_stolen = refl

-- two ranks, each of which waits for a message of the other
-- if rank == 0 { recv x from 1 tag 2; } else { recv x from 0 tag 3; }
abbrev crossed : Program
crossed = record {
  version = 1;
  ranks = 2;
  decls = one_variable;
  body = branch (op2 Equal own_rank (n 0)) (then_more (recv (Some (n 1)) (Some (n 2))) no_more) (then_more (recv (Some (n 0)) (Some (n 3))) no_more) ∷ [];
  lines = 4 ∷ 5 ∷ 7 ∷ [];
}

pub row_crossed : map {B = End} (λ (r : Run). end_after crossed Rendezvous r.steps r.ending) (walk 20 (start crossed Rendezvous)) ≡ the_end.Deadlock
    (wait (bare (placed 0 0 5 (received (Some 1) (Some 2) true))) [] (rank_that 1 false) ∷ wait (bare (placed 1 0 7 (received (Some 0) (Some 3) true))) [] (rank_that 0 false) ∷ []) ((0 ∷ 1 ∷ []) ∷ []) [] ∷ []
unfolding walk decision
row_crossed = refl

-- a send of another tag than the one that is waited for: of both calls the other is the nearest
-- miss if rank == 0 { recv x from 1 tag 2; } else { send 5 to 0 tag 1; }
abbrev missed : Program
missed = record {
  version = 1;
  ranks = 2;
  decls = one_variable;
  body = branch (op2 Equal own_rank (n 0)) (then_more (recv (Some (n 1)) (Some (n 2))) no_more) (then_more (simple (st.Send (record { value = n 5; to = n 0; tag = n 1 }))) no_more) ∷ [];
  lines = 4 ∷ 5 ∷ 7 ∷ [];
}

pub row_missed : map {B = End} (λ (r : Run). end_after missed Rendezvous r.steps r.ending) (walk 20 (start missed Rendezvous)) ≡ the_end.Deadlock
    (wait (near (placed 0 0 5 (received (Some 1) (Some 2) true)) (placed 1 0 7 (sent 0 1 5 true false)) Tag) [] (rank_that 1 false)
    ∷ wait (near (placed 1 0 7 (sent 0 1 5 true false)) (placed 0 0 5 (received (Some 1) (Some 2) true)) Tag) [] (rank_that 0 false) ∷ []) ((0 ∷ 1 ∷ []) ∷ []) [] ∷ []
unfolding walk decision
row_missed = refl

-- rank 1 skips the barrier that rank 0 waits at
-- if rank == 0 { barrier; } else { print 1; }
abbrev skipped : Program
skipped = record {
  version = 1;
  ranks = 2;
  decls = one_variable;
  body = branch (op2 Equal own_rank (n 0)) (then_more (simple st.Barrier) no_more) (then_more (simple (st.Print (n 1))) no_more) ∷ [];
  lines = 4 ∷ 5 ∷ 7 ∷ [];
}

pub row_skipped : map {B = End} (λ (r : Run). end_after skipped Rendezvous r.steps r.ending) (walk 20 (start skipped Rendezvous)) ≡ the_end.Deadlock
    (record { wish = bare (placed 0 0 5 on.Barrier); requests = []; absent = record { rank = 1; stands = Some at.Ended } ∷ []; awaited = rank_that 1 true } ∷ []) [] [] ∷ []
unfolding walk decision
row_skipped = refl

-- rank 1 divides by zero on line 7
-- if rank == 0 { print 1; } else { print 1 / 0; }
abbrev divided : Program
divided = record {
  version = 1;
  ranks = 2;
  decls = one_variable;
  body = branch (op2 Equal own_rank (n 0)) (then_more (simple (st.Print (n 1))) no_more) (then_more (simple (st.Print (op2 Divide (n 1) (n 0)))) no_more) ∷ [];
  lines = 4 ∷ 5 ∷ 7 ∷ [];
}

pub row_divided : map {B = End} (λ (r : Run). end_after divided Rendezvous r.steps r.ending) (walk 20 (start divided Rendezvous)) ≡ the_end.Trap (record { rank = 1; line = 7; trap = ZeroDivisor; reads = [] } ∷ []) ∷ []
unfolding walk decision
row_divided = refl

-- rank 1 divides by what x holds, and then would print x
-- if rank == 0 { print 1; } else { print 1 / x; print x; }
abbrev divided_by : Program
divided_by = record {
  version = 1;
  ranks = 2;
  decls = one_variable;
  body = branch (op2 Equal own_rank (n 0)) (then_more (simple (st.Print (n 1))) no_more) (then_more (simple (st.Print (op2 Divide (n 1) (cell x.place)))) (then_more (simple (st.Print (cell x.place))) no_more)) ∷ [];
  lines = 4 ∷ 5 ∷ 7 ∷ 8 ∷ [];
}

pub row_divided_by : map {B = End} (λ (r : Run). end_after divided_by Rendezvous r.steps r.ending) (walk 20 (start divided_by Rendezvous)) ≡ the_end.Trap (record { rank = 1; line = 7; trap = ZeroDivisor; reads = record { declaration = 0; held = Values (pos 0 ∷ []) } ∷ [] } ∷ []) ∷ []
unfolding walk decision
row_divided_by = refl

-- two messages that nobody receives: with buffers they are left over, and else the first one blocks
-- its rank if rank == 0 { send 5 to 1 tag 1; send 6 to 1 tag 2; } else { print 1; }
abbrev unread : Program
unread = record {
  version = 1;
  ranks = 2;
  decls = one_variable;
  body = branch (op2 Equal own_rank (n 0)) (then_more (simple (st.Send (record { value = n 5; to = n 1; tag = n 1 }))) (then_more (simple (st.Send (record { value = n 6; to = n 1; tag = n 2 }))) no_more)) (then_more (simple (st.Print (n 1))) no_more) ∷ [];
  lines = 4 ∷ 5 ∷ 6 ∷ 8 ∷ [];
}

pub row_unread : map {B = End} (λ (r : Run). end_after unread Buffered r.steps r.ending) (walk 20 (start unread Buffered)) ≡ the_end.Leftovers (placed 0 0 5 (sent 1 1 5 true true) ∷ placed 0 1 6 (sent 1 2 6 true true) ∷ []) ∷ []
unfolding walk decision
row_unread = refl

-- rank 0 waits for its second request; its first, and a message of rank 1 that nobody receives, are
-- left over if rank == 0 { irecv r[0] x from 1 tag 8; irecv r[1] x from 1 tag 9; wait r[1]; } else
-- { isend r[0] 5 to 0 tag 3; }
abbrev two_requests : List Declared
two_requests = record { kind = Variable; name = codes "x"; size = None } ∷ record { kind = Handle; name = codes "r"; size = Some 2 } ∷ []

abbrev handle : ℕ → Target
handle k = record { place = record { declaration = 1; first = 0; cells = 2 }; index = Some (n k) }

abbrev posted : ℕ → ℕ → Tree
posted k tag = simple (st.Irecv (record { request = handle k; recv = record { into = x; from = Some (n 1); tag = Some (n tag); status = None } }))

abbrev beside : Program
beside = record {
  version = 1;
  ranks = 2;
  decls = two_requests;
  body = branch (op2 Equal own_rank (n 0)) (then_more (posted 0 8) (then_more (posted 1 9) (then_more (simple (st.Wait (handle 1))) no_more))) (then_more (simple (st.Isend (record { request = handle 0; send = record { value = n 5; to = n 0; tag = n 3 } }))) no_more) ∷ [];
  lines = 4 ∷ 5 ∷ 6 ∷ 7 ∷ 9 ∷ [];
}

pub row_beside : map {B = End} (λ (r : Run). end_after beside Rendezvous r.steps r.ending) (walk 20 (start beside Rendezvous)) ≡ the_end.Deadlock
    (wait (bare (placed 0 2 7 (on.Wait (record { handle = 1; target = Some 1 })))) (near (placed 0 1 6 (received (Some 1) (Some 9) false)) (placed 1 0 9 (sent 0 3 5 false false)) Tag ∷ []) (rank_that 1 true) ∷ [])
    [] (placed 0 0 5 (received (Some 1) (Some 8) false) ∷ placed 1 0 9 (sent 0 3 5 false false) ∷ []) ∷ []
unfolding walk decision
row_beside = refl

-- ---- cycles: ranks 1, 3 and 2 wait for one another, rank 0 for rank 1, rank 4 for no one rank

abbrev next : List (Option ℕ)
next = Some 1 ∷ Some 3 ∷ Some 1 ∷ Some 2 ∷ None ∷ []

pub row_round : map {B = Option ℕ} (round next) (0 ∷ 1 ∷ 2 ∷ 3 ∷ 4 ∷ []) ≡ None ∷ Some 3 ∷ Some 3 ∷ Some 3 ∷ None ∷ []
row_round = refl

pub row_cycle : map {B = Option (List ℕ)} (cycle next) (0 ∷ 1 ∷ 2 ∷ 3 ∷ 4 ∷ []) ≡ None ∷ Some (1 ∷ 3 ∷ 2 ∷ []) ∷ None ∷ None ∷ None ∷ []
row_cycle = refl

-- ---- where all ranks stand

abbrev empty : Program
empty = record stolen { body = []; lines = [] }

pub row_all_stand : map (λ s. all_stands s (start s Rendezvous)) (stolen ∷ empty ∷ []) ≡ (at.At 4 ∷ at.At 4 ∷ []) ∷ (at.Ended ∷ at.Ended ∷ []) ∷ []
row_all_stand = refl
