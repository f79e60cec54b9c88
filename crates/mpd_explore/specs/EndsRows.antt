-- Worked rows of the walks in which steps sleep: two races of two senders each, which share no call, and sends that want a slot. What is wanted
-- was worked out by hand.
use Rattle.std.specs.Prelude.{◌≡◌, ℕ, pos, Bool, true, false, map, List, [], ◌∷◌, Some, None, codes, refl}
use Rattle.mpd_model.specs.declared.place.DeclKind.TheVariants.{Variable}
use Rattle.mpd_model.specs.declared.expr.BinaryOp.TheVariants.{Equal, Less, Remainder}
use Rattle.mpd_model.specs.declared.call.Mode.TheVariants.{Rendezvous, Slots}
use Rattle.mpd_model.specs.declared.outcome.IssuedCall.{IssuedCall}
use Rattle.mpd_model.specs.declared.outcome.Outcome.TheVariants as o
use Rattle.mpd_model.specs.declared.stmt.Simple.TheVariants as st
use Rattle.mpd_model.specs.script.Term.{Term, lit, own_rank, op2, Target}
use Rattle.mpd_model.specs.script.Tree.{Tree, simple, branch, no_more, then_more}
use Rattle.mpd_model.specs.script.Program.{Program}
use Rattle.mpd_model.specs.steps.World.{call_id, start}
use Rattle.mpd_model.specs.steps.Outcomes.{issued_by}
use Rattle.mpd_model.specs.runs.Decisions.{decision}
use Rattle.mpd_explore.specs.declared.report.SearchLeaf as leaf
use Rattle.mpd_explore.specs.declared.report.SearchLimits.{SearchLimits}
use Rattle.mpd_explore.specs.declared.report.Witnesses.TheVariants.{OfNone}
use Rattle.mpd_policy.specs.declared.ending.Ending.{Ending}
use Rattle.mpd_policy.specs.declared.ending.Ending.TheVariants.{Ended}
use Rattle.mpd_policy.specs.Walk.{Run, walk}
use Rattle.mpd_policy.specs.Wide.{wide_decision}
use Rattle.mpd_explore.specs.Sleeping.{awake_by, sleeping_wide_walk}
use Rattle.mpd_explore.specs.Pieces.{pieces, walk_from, part, split_report}

abbrev n : ℕ → Term
n k = lit (pos k)

abbrev x : Target
x = record { place = record { declaration = 0; first = 0; cells = 1 }; index = None }

-- if rank < 2 { recv x from any tag any; } else { send rank to rank % 2 tag 0; }
abbrev races : Program
races = record {
  version = 1;
  ranks = 6;
  decls = record { kind = Variable; name = codes "x"; size = None } ∷ [];
  body = branch (op2 Less own_rank (n 2)) (then_more (simple (st.Recv (record { into = x; from = None; tag = None; status = None }))) no_more) (then_more (simple (st.Send (record { value = own_rank; to = op2 Remainder own_rank (n 2); tag = n 0 }))) no_more) ∷ [];
  lines = 2 ∷ 2 ∷ 2 ∷ [];
}

-- The four candidates of the first choice: ranks 2 and 4 to rank 0, ranks 3 and 5 to rank 1. Each order of one of either is a run.
pub row_orders : map {B = List ℕ} (λ (r : Run). r.choices) (walk 30 (start races Rendezvous))
    ≡ (0 ∷ 0 ∷ []) ∷ (0 ∷ 1 ∷ []) ∷ (1 ∷ 0 ∷ []) ∷ (1 ∷ 1 ∷ []) ∷ (2 ∷ 0 ∷ []) ∷ (2 ∷ 1 ∷ []) ∷ (3 ∷ 0 ∷ []) ∷ (3 ∷ 1 ∷ []) ∷ []
unfolding walk decision
row_orders = refl

-- after the third and the fourth of them the matches with rank 0 are asleep
pub row_ends : map {B = List ℕ} (λ (r : Run). r.choices) (sleeping_wide_walk 30 (start races Rendezvous)) ≡ (0 ∷ 0 ∷ []) ∷ (0 ∷ 1 ∷ []) ∷ (1 ∷ 0 ∷ []) ∷ (1 ∷ 1 ∷ []) ∷ []
unfolding awake_by wide_decision
row_ends = refl

-- the same by pieces: after the third and the fourth candidate what is left is asleep
abbrev each_end : SearchLimits
each_end = record { runs = 9; fuel = 30; witnesses = OfNone; until_bad = false; ends = true }

pub row_parts : map {B = List (List ℕ)} (λ (c : ℕ). map (λ (l : leaf.SearchLeaf). l.choices) (part each_end (c ∷ []) (start races Rendezvous))) (0 ∷ 1 ∷ 2 ∷ 3 ∷ [])
    ≡ ((0 ∷ 0 ∷ []) ∷ (0 ∷ 1 ∷ []) ∷ []) ∷ ((1 ∷ 0 ∷ []) ∷ (1 ∷ 1 ∷ []) ∷ []) ∷ [] ∷ [] ∷ []
unfolding walk_from awake_by wide_decision
row_parts = refl

-- ---- where the wide walk has ends that the walk leaves out, and what was asleep wakes

abbrev send_on : Tree
send_on = simple (st.Send (record { value = own_rank; to = n 1; tag = n 0 }))

abbrev recv_on : Tree
recv_on = simple (st.Recv (record { into = x; from = Some (n 0); tag = Some (n 0); status = None }))

-- if rank == 0 { send rank to 1 tag 0; send rank to 1 tag 0; send rank to 1 tag 0; } else { recv x from 0 tag 0; recv x from 0 tag 0; }
abbrev three_sends : Program
three_sends = record {
  version = 1;
  ranks = 2;
  decls = record { kind = Variable; name = codes "x"; size = None } ∷ [];
  body = branch (op2 Equal own_rank (n 0)) (then_more send_on (then_more send_on (then_more send_on no_more))) (then_more recv_on (then_more recv_on no_more)) ∷ [];
  lines = 2 ∷ 2 ∷ 2 ∷ 2 ∷ 2 ∷ 2 ∷ [];
}

-- each end once or every order, by a fuel of 30
abbrev asked : Bool → SearchLimits
asked ends = record { runs = 9; fuel = 30; witnesses = OfNone; until_bad = false; ends = ends }

abbrev last_send : List IssuedCall
last_send = issued_by 3 (call_id 0 2) ∷ []

-- With one slot the second send comes before the match of the first one, and finds none, or after it; and so does the third. Below the match,
-- where the second send was tried before it, the third one isn't asleep: both are the local step of rank 0.
abbrev three_ends : List (List ℕ × Ending)
three_ends = (0 ∷ 0 ∷ [], Ended (o.Leftovers last_send)) ∷ (1 ∷ 0 ∷ 0 ∷ [], Ended (o.Deadlock last_send)) ∷ (1 ∷ 1 ∷ [], Ended (o.Leftovers last_send)) ∷ []

pub row_wide_pieces : map {B = List (List ℕ)} (λ (k : ℕ). pieces wide_decision k 30 (start three_sends (Slots 1))) (0 ∷ 1 ∷ 2 ∷ 3 ∷ []) ≡ ([] ∷ []) ∷ ((0 ∷ []) ∷ (1 ∷ []) ∷ []) ∷ ((0 ∷ 0 ∷ []) ∷ (1 ∷ 0 ∷ []) ∷ (1 ∷ 1 ∷ []) ∷ []) ∷ ((0 ∷ 0 ∷ []) ∷ (1 ∷ 0 ∷ 0 ∷ []) ∷ (1 ∷ 1 ∷ []) ∷ []) ∷ []
unfolding pieces wide_decision
row_wide_pieces = refl

-- cut by no choice, by one and by two they are the same; the walk, which takes local steps first, has no choice, and one end
pub row_wide_ends : map {B = List (List ℕ × Ending)} (λ (q : ℕ × Bool). map (λ (l : leaf.SearchLeaf). (l.choices, l.ending)) (split_report q.0 (asked q.1) (start three_sends (Slots 1)))) ((0, true) ∷ (1, true) ∷ (2, true) ∷ (0, false) ∷ (2, false) ∷ [])
    ≡ three_ends ∷ three_ends ∷ three_ends ∷ (([], Ended (o.Leftovers last_send)) ∷ []) ∷ (([], Ended (o.Leftovers last_send)) ∷ []) ∷ []
unfolding pieces walk_from awake_by decision wide_decision
row_wide_ends = refl
