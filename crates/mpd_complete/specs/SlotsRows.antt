-- Worked rows of a mode whose buffers run out, in which a walk that is nowhere cut leaves out an
-- end, and two steps that share no call but conflict lead to two worlds. What is wanted was worked
-- out by hand.
use Rattle.std.specs.Prelude.{◌≡◌, ◌≤◌, ℕ, ◌+◌, pos, Bool, true, false, map, List, [], ◌∷◌, ◌++◌, slice_get, replicate, Option, Some, None, is_some, codes, refl}
use Rattle.std.specs.Option.{option_map}
use Rattle.std.proofs.Common.{arith, sym, ap, ◌∙◌}
use Rattle.mpd_model.specs.declared.place.DeclKind.TheVariants.{Variable, Handle}
use Rattle.mpd_model.specs.declared.expr.BinaryOp.TheVariants.{Equal}
use Rattle.mpd_model.specs.declared.step.Step.{Step}
use Rattle.mpd_model.specs.declared.step.Step.TheVariants.{Local, Match, Wake}
use Rattle.mpd_model.specs.declared.call.Call.{Call}
use Rattle.mpd_model.specs.declared.call.Mode.{Mode}
use Rattle.mpd_model.specs.declared.call.Mode.TheVariants.{Rendezvous, Buffered, Slots}
use Rattle.mpd_model.specs.declared.stmt.Simple.TheVariants as st
use Rattle.mpd_model.specs.declared.outcome.Outcome.{Outcome}
use Rattle.mpd_model.specs.declared.outcome.Outcome.TheVariants as o
use Rattle.mpd_model.specs.script.Term.{Term, lit, own_rank, op2, Target}
use Rattle.mpd_model.specs.script.Tree.{Tree, simple, branch, repeat, Block, no_more, then_more, statements_in}
use Rattle.mpd_model.specs.script.Program.{Program}
use Rattle.mpd_model.specs.steps.World.{World, start, call_id, listed_calls, kind_of, is_buffered}
use Rattle.mpd_model.specs.steps.Next.{next, fold, enabled}
use Rattle.mpd_model.specs.steps.Outcomes.{issued_by, ending}
use Rattle.mpd_model.specs.runs.Decisions.{decision}
use Rattle.mpd_policy.specs.Wide.{conflict}
use Rattle.mpd_policy.specs.declared.ending.Ending.{Ending}
use Rattle.mpd_policy.specs.declared.ending.Ending.TheVariants.{Ended}
use Rattle.mpd_policy.specs.Walk.{Run, walk}
use Rattle.mpd_complete.specs.CompleteLaws.{HasNoWaitany, KeepsBuffers, Joins, IsWhole, IsComplete}
use Rattle.mpd_explore.specs.Sleeping.{awake_by}
use Rattle.mpd_complete.specs.Sleeping.{sleeping_walk}

abbrev n : ℕ → Term
n k = lit (pos k)

abbrev x : Target
x = record { place = record { declaration = 0; first = 0; cells = 1 }; index = None }

abbrev request : ℕ → Target
request k = record { place = record { declaration = 1; first = 0; cells = 2 }; index = Some (n k) }

abbrev isend : ℕ → ℕ → Tree
isend k tag = simple (st.Isend (record { request = request k; send = record { value = n 1; to = n 1; tag = n tag } }))

-- var x; req r[2]; if rank == 0 { isend r[0] 1 to 1 tag 0; isend r[1] 1 to 1 tag 1; wait r[1]; and
-- then these } else { recv x from 0 tag 0; }
abbrev pub two_sends : Block → Program
two_sends behind = record {
  version = 1;
  ranks = 2;
  decls = record { kind = Variable; name = codes "x"; size = None } ∷ record { kind = Handle; name = codes "r"; size = Some 2 } ∷ [];
  body = branch (op2 Equal own_rank (n 0))
      (then_more (isend 0 0) (then_more (isend 1 1) (then_more (simple (st.Wait (request 1))) behind)))
      (then_more (simple (st.Recv (record { into = x; from = Some (n 0); tag = Some (n 0); status = None }))) no_more)
      ∷ [];
  lines = replicate (5 + statements_in behind) 2;
}

abbrev pub first_pair : Step
first_pair = Match (call_id 0 0) (call_id 1 0)

-- the first send and the receive are there
abbrev pub both_there : List Step
both_there = Local 0 ∷ Local 0 ∷ Local 1 ∷ Local 1 ∷ []

-- the match comes before the second send, which so finds a slot
abbrev matched_first : List Step
matched_first = both_there ++ first_pair ∷ Local 0 ∷ Local 0 ∷ Wake 0 ∷ []

-- ---- an end that is left out

abbrev pub ending_there : Program
ending_there = two_sends no_more

-- with one slot the walk, which takes local steps first, comes to a deadlock: it waits for the
-- second send, which found no slot
pub row_walk : map {B = List ℕ × Ending} (λ (r : Run). (r.choices, r.ending)) (walk 8 (start ending_there (Slots 1))) ≡ ([], Ended (o.Deadlock (issued_by 3 (call_id 0 2) ∷ []))) ∷ []
unfolding walk decision
row_walk = refl

pub row_sleeping_walk : map {B = List ℕ × Ending} (λ (r : Run). (r.choices, r.ending)) (sleeping_walk 8 (start ending_there (Slots 1))) ≡ ([], Ended (o.Deadlock (issued_by 3 (call_id 0 2) ∷ []))) ∷ []
unfolding awake_by decision
row_sleeping_walk = refl

-- with the match first it ends, and the second message is left over
abbrev left_out : List Step
left_out = matched_first ++ Wake 1 ∷ []

pub row_left_out : option_map {U = Outcome × List Step} (λ w. (ending w, enabled w)) (fold (start ending_there (Slots 1)) left_out) ≡ Some (o.Leftovers (issued_by 2 (call_id 0 1) ∷ []), [])
row_left_out = refl

-- in the other modes, with no slot and with two, these steps come to what the walk comes to, or
-- can't be taken
pub row_other_walks : map {B = List (List ℕ × Ending)} (λ (mode : Mode). map {B = List ℕ × Ending} (λ (r : Run). (r.choices, r.ending)) (walk 9 (start ending_there mode))) (Rendezvous ∷ Buffered ∷ Slots 0 ∷ Slots 2 ∷ [])
    ≡ (([], Ended (o.Deadlock (issued_by 3 (call_id 0 2) ∷ []))) ∷ []) ∷ (([], Ended (o.Leftovers (issued_by 2 (call_id 0 1) ∷ []))) ∷ []) ∷ (([], Ended (o.Deadlock (issued_by 3 (call_id 0 2) ∷ []))) ∷ []) ∷ (([], Ended (o.Leftovers (issued_by 2 (call_id 0 1) ∷ []))) ∷ []) ∷ []
unfolding walk decision
row_other_walks = refl

pub row_others_left_out : map {B = Option Outcome} (λ (mode : Mode). option_map ending (fold (start ending_there mode) left_out)) (Rendezvous ∷ Buffered ∷ Slots 0 ∷ Slots 2 ∷ [])
    ≡ None ∷ Some (o.Leftovers (issued_by 2 (call_id 0 1) ∷ [])) ∷ None ∷ Some (o.Leftovers (issued_by 2 (call_id 0 1) ∷ [])) ∷ []
row_others_left_out = refl

-- ---- a run that is longer than the fuel, and may go on for ever: while 1 == 1 { print 1; }

abbrev looping : Program
looping = two_sends (then_more (repeat (op2 Equal (n 1) (n 1)) (then_more (simple (st.Print (n 1))) no_more)) no_more)

pub row_short : map {B = List ℕ × Ending} (λ (r : Run). (r.choices, r.ending)) (walk 8 (start looping (Slots 1))) ≡ ([], Ended (o.Deadlock (issued_by 3 (call_id 0 2) ∷ []))) ∷ []
unfolding walk decision
row_short = refl

pub row_longer : is_some (fold (start looping (Slots 1)) (matched_first ++ replicate 20 (Local 0))) ≡ true
row_longer = refl

-- ---- two steps that don't commute

abbrev pub world_of : Option World → World
world_of None = start ending_there (Slots 1)
world_of (Some w) = w

abbrev pub behind : List Step → World
behind steps = world_of (fold (start ending_there (Slots 1)) steps)

-- whether the second send of rank 0 was buffered
abbrev second_is_buffered : List (List Call) → Bool
second_is_buffered calls = is_buffered (kind_of (slice_get (listed_calls (slice_get calls 0)) 1))

pub row_enabled : enabled (behind both_there) ≡ Local 0 ∷ first_pair ∷ []
row_enabled = refl

pub row_conflict : conflict (behind both_there) (Local 0) first_pair ≡ true
row_conflict = refl

-- the local step first, and the match first
pub row_two_worlds : map {B = Bool} (λ (steps : List Step). second_is_buffered (behind (both_there ++ steps)).board.calls) ((Local 0 ∷ first_pair ∷ []) ∷ (first_pair ∷ Local 0 ∷ []) ∷ []) ≡ false ∷ true ∷ []
row_two_worlds = refl

-- ---- the laws don't hold without the premise

pub row_no_buffers_kept : KeepsBuffers (Slots 1) → ⊥
row_no_buffers_kept e = cc

pub row_no_waitany : HasNoWaitany ending_there
row_no_waitany = (((omega arith, (omega arith, (omega arith, tt))), (omega arith, tt)), tt)

-- what holds of two steps that join in one world
buffers_join : (u v : World) (a b : Step) → Joins u v a b → second_is_buffered (world_of (next u b)).board.calls ≡ second_is_buffered (world_of (next v a)).board.calls
buffers_join u v a b h =
    ap (λ (w : Option World). second_is_buffered (world_of w).board.calls) h.by_b
    ∙ ap second_is_buffered h.same.calls
    ∙ sym (ap (λ (w : Option World). second_is_buffered (world_of w).board.calls) h.by_a)

pub row_dont_commute : Joins (behind (both_there ++ Local 0 ∷ [])) (behind (both_there ++ first_pair ∷ [])) (Local 0) first_pair → ⊥
row_dont_commute h = let same : false ≡ true = buffers_join (behind (both_there ++ Local 0 ∷ [])) (behind (both_there ++ first_pair ∷ [])) (Local 0) first_pair h in cc

whole : IsWhole (walk 8 (start ending_there (Slots 1)))
unfolding walk decision
whole = refl

too_long : 9 ≤ 8 → ⊥
too_long e = omega (arith, e)

pub row_not_complete : ((steps : List Step) (w : World) → fold (start ending_there (Slots 1)) steps ≡ Some w → IsComplete (walk 8 (start ending_there (Slots 1))) 8 (start ending_there (Slots 1)) w steps) → ⊥
row_not_complete all = too_long (all left_out (behind left_out) refl).short
