-- Worked rows: what is forgotten, and what isn't.
use Rattle.std.specs.Prelude.{◌≡◌, ℕ, ℤ, ◌+◌, pos, Bool, true, false, map, List, [], ◌∷◌, ◌++◌, replicate, Option, Some, None, is_some, codes, refl}
use Rattle.std.proofs.Common.{ap}
use Rattle.mpd_model.specs.declared.place.DeclKind.TheVariants.{Variable, Handle}
use Rattle.mpd_model.specs.declared.place.Place.{Place}
use Rattle.mpd_model.specs.declared.expr.BinaryOp.TheVariants.{Equal}
use Rattle.mpd_model.specs.declared.step.Step.{Step}
use Rattle.mpd_model.specs.declared.step.Step.TheVariants.{Local, Match, Wake}
use Rattle.mpd_model.specs.declared.call.Call.{Call}
use Rattle.mpd_model.specs.declared.call.CallKind.{CallKind}
use Rattle.mpd_model.specs.declared.call.CallKind.TheVariants.{Send, Barrier}
use Rattle.mpd_model.specs.declared.call.Activity.{Activity}
use Rattle.mpd_model.specs.declared.call.Activity.TheVariants.{Running, Blocked}
use Rattle.mpd_model.specs.declared.call.Mode.TheVariants.{Rendezvous}
use Rattle.mpd_model.specs.declared.outcome.Outcome.TheVariants.{Done}
use Rattle.mpd_model.specs.declared.call.MatchSet.{MatchSet}
use Rattle.mpd_model.specs.declared.call.MatchSet.TheVariants.{Pair, Woke}
use Rattle.mpd_model.specs.declared.stmt.Simple.TheVariants as st
use Rattle.mpd_model.specs.script.Term.{Term, lit, cell, own_rank, op2, Target}
use Rattle.mpd_model.specs.script.Tree.{Tree, simple, branch, no_more, then_more, Block, statements_in}
use Rattle.mpd_model.specs.script.Program.{Program}
use Rattle.mpd_model.specs.steps.World.{World, call_id, start}
use Rattle.mpd_model.specs.steps.Next.{fold}
use Rattle.mpd_policy.specs.Wide.{wide_decision}
use Rattle.mpd_policy.specs.Walk.{Run, wide_walk}
use Rattle.mpd_policy.specs.declared.ending.Ending.{Ending}
use Rattle.mpd_policy.specs.declared.ending.Ending.TheVariants.{Ended}
use Rattle.mpd_outcomes.specs.Future.{BlockedOn, RankKey, Key, key_of, SameFuture}
use Rattle.mpd_outcomes.specs.Height.{height}

abbrev n : ℕ → Term
n k = lit (pos k)

abbrev x : Place
x = record { declaration = 0; first = 0; cells = 1 }

abbrev whole : Place → Target
whole p = record { place = p; index = None }

abbrev request : Target
request = record { place = record { declaration = 1; first = 0; cells = 1 }; index = None }

-- three ranks; var x; req r; if rank == 0 { these } else { send VALUE to 0 tag 0; }
abbrev gathering : Term → Block → Program
gathering value receives = record {
  version = 1;
  ranks = 3;
  decls = record { kind = Variable; name = codes "x"; size = None } ∷ record { kind = Handle; name = codes "r"; size = None } ∷ [];
  body = branch (op2 Equal own_rank (n 0)) receives
      (then_more (simple (st.Send (record { value = value; to = n 0; tag = n 0 }))) no_more)
      ∷ [];
  lines = replicate (2 + statements_in receives) 2;
}

abbrev recv_any : Tree
recv_any = simple (st.Recv (record { into = whole x; from = None; tag = None; status = None }))

-- recv x from any tag any; print x; recv x from any tag any;
abbrev two_receives : Block
two_receives = then_more recv_any (then_more (simple (st.Print (cell x))) (then_more recv_any no_more))

abbrev to_both : List Step
to_both = Local 0 ∷ Local 0 ∷ Local 1 ∷ Local 1 ∷ Local 2 ∷ Local 2 ∷ []

-- the message of rank a first, and then that of rank b
abbrev in_order : ℕ → ℕ → List Step
in_order a b = to_both ++ Match (call_id a 0) (call_id 0 0) ∷ Wake 0 ∷ Wake a ∷ Local 0 ∷ Local 0 ∷ Match (call_id b 0) (call_id 0 1) ∷ Wake b ∷ []

abbrev world_of : Option World → World
world_of None = start (gathering (n 1) two_receives) Rendezvous
world_of (Some w) = w

abbrev behind : Program → List Step → World
behind s steps = world_of (fold (start s Rendezvous) steps)

abbrev parts : Option RankKey → List (Option Call) × Option BlockedOn
parts None = ([], None)
parts (Some k) = (k.calls, k.blocked)

-- what the first rank of a key writes as it goes on
abbrev writes_by : Option BlockedOn → List (ℕ × ℤ)
writes_by None = []
writes_by (Some b) = b.last.writes

abbrev first_writes : List (Option RankKey) → List (ℕ × ℤ)
first_writes [] = []
first_writes (None ∷ ranks) = []
first_writes (Some k ∷ ranks) = writes_by k.blocked

abbrev first_value : List (ℕ × ℤ) → ℤ
first_value [] = pos 0
first_value (w ∷ ws) = w.1

-- ---- equal values, in either order: worlds that differ in their match sets, and have one future

pub row_two_orders : map {B = Bool} (λ (steps : List Step). is_some (fold (start (gathering (n 1) two_receives) Rendezvous) steps)) (in_order 1 2 ∷ in_order 2 1 ∷ []) ≡ true ∷ true ∷ []
row_two_orders = refl

pub row_two_worlds : map {B = List MatchSet} (λ (steps : List Step). (behind (gathering (n 1) two_receives) steps).board.sets) (in_order 1 2 ∷ in_order 2 1 ∷ [])
    ≡ (Pair (call_id 1 0) (call_id 0 0) ∷ Woke (call_id 0 0) ∷ Woke (call_id 1 0) ∷ Pair (call_id 2 0) (call_id 0 1) ∷ Woke (call_id 2 0) ∷ [])
    ∷ (Pair (call_id 2 0) (call_id 0 0) ∷ Woke (call_id 0 0) ∷ Woke (call_id 2 0) ∷ Pair (call_id 1 0) (call_id 0 1) ∷ Woke (call_id 1 0) ∷ [])
    ∷ []
row_two_worlds = refl

pub row_one_future : SameFuture (behind (gathering (n 1) two_receives) (in_order 1 2)) (behind (gathering (n 1) two_receives) (in_order 2 1))
row_one_future = refl

-- what is left of them: rank 0 waits for a receive of statement 3 that is paired and writes 1, and the others have ended
pub row_key : map {B = List (Option Call) × Option BlockedOn} (λ (k : Option RankKey). parts k) (key_of (behind (gathering (n 1) two_receives) (in_order 2 1))).ranks
    ≡ (None ∷ None ∷ [], Some (record { last = record { kind = None; paired = true; writes = (0, pos 1) ∷ [] }; statement = 3; target = Some (record { kind = None; paired = true; writes = (0, pos 1) ∷ [] }) }))
    ∷ (None ∷ [], None) ∷ (None ∷ [], None) ∷ []
row_key = refl

-- ---- each rank sends its number: then what the last receive writes tells the orders apart

pub row_two_futures : SameFuture (behind (gathering own_rank two_receives) (in_order 1 2)) (behind (gathering own_rank two_receives) (in_order 2 1)) → ⊥
row_two_futures e = differ (ap (λ (k : Key). first_value (first_writes k.ranks)) e)
  where
    differ : pos 2 ≡ pos 1 → ⊥
    differ f = cc

-- but once rank 0 has ended, what it holds is read by nothing
pub row_ended : SameFuture (behind (gathering own_rank two_receives) (in_order 1 2 ++ Wake 0 ∷ [])) (behind (gathering own_rank two_receives) (in_order 2 1 ++ Wake 0 ∷ []))
row_ended = refl

-- ---- which statement issued a call

-- one rank, which has issued one call by the statement of this number and paired it or not
abbrev issuing : CallKind → Activity → List MatchSet → ℕ → World
issuing kind activity sets number = record {
  ranks = record { rest = []; vars = []; handles = Some 0 ∷ []; out = []; activity = activity } ∷ [];
  board = record { mode = Rendezvous; calls = (record { statement = number; kind = kind } ∷ []) ∷ []; sets = sets };
}

abbrev to_itself : CallKind
to_itself = Send (record { to = 0; tag = 0; value = pos 1; synchronous = false; blocks = false; buffered = false })

abbrev free_statement : List (Option Call) → ℕ
free_statement (Some c ∷ calls) = c.statement
free_statement calls = 0

abbrev blocked_statement : Option BlockedOn → ℕ
blocked_statement None = 0
blocked_statement (Some b) = b.statement

abbrev first_statement : List (Option RankKey) → ℕ × ℕ
first_statement (Some k ∷ ranks) = (free_statement k.calls, blocked_statement k.blocked)
first_statement ranks = (0, 0)

-- a free call's, and that of the call at which a rank is blocked; none of a call that is paired, or of a barrier after which its rank is
pub row_statements : map {B = ℕ × ℕ} (λ (w : ℕ → World). first_statement (key_of (w 4)).ranks)
    (issuing to_itself Running [] ∷ issuing to_itself Blocked [] ∷ issuing to_itself Running (Pair (call_id 0 0) (call_id 0 1) ∷ []) ∷ issuing Barrier Blocked [] ∷ issuing Barrier Running [] ∷ [])
    ≡ (4, 0) ∷ (4, 4) ∷ (0, 0) ∷ (0, 4) ∷ (0, 0) ∷ []
row_statements = refl

pub row_free_elsewhere : SameFuture (issuing to_itself Running [] 4) (issuing to_itself Running [] 5) → ⊥
row_free_elsewhere e = differ (ap (λ (k : Key). pos (first_statement k.ranks).0) e)
  where
    differ : pos 4 ≡ pos 5 → ⊥
    differ f = cc

pub row_blocked_elsewhere : SameFuture (issuing Barrier Blocked [] 4) (issuing Barrier Blocked [] 5) → ⊥
row_blocked_elsewhere e = differ (ap (λ (k : Key). pos (first_statement k.ranks).1) e)
  where
    differ : pos 4 ≡ pos 5 → ⊥
    differ f = cc

-- a call that no end will tell is the same wherever it was issued
pub row_paired_elsewhere : SameFuture (issuing to_itself Running (Pair (call_id 0 0) (call_id 0 1) ∷ []) 4) (issuing to_itself Running (Pair (call_id 0 0) (call_id 0 1) ∷ []) 5)
row_paired_elsewhere = refl

pub row_passed_elsewhere : SameFuture (issuing Barrier Running [] 4) (issuing Barrier Running [] 5)
row_passed_elsewhere = refl

-- ---- its runs

pub row_ends : map {B = Ending} (λ (r : Run). r.ending) (wide_walk 14 (start (gathering (n 1) two_receives) Rendezvous)) ≡ Ended Done ∷ Ended Done ∷ []
unfolding wide_walk wide_decision
row_ends = refl

-- each run has 14 steps: 2 of each rank for its branch and its first call, 3 for each of both messages, a print and the second receive
pub row_height : map {B = ℕ} (λ (fuel : ℕ). height fuel (start (gathering (n 1) two_receives) Rendezvous)) (12 ∷ 13 ∷ 14 ∷ 20 ∷ []) ≡ 13 ∷ 14 ∷ 14 ∷ 14 ∷ []
unfolding height wide_decision
row_height = refl
