-- Worked rows of walks: how their runs end, and that none is cut.
use Rattle.std.specs.Prelude.{◌≡◌, ℕ, pos, Bool, true, false, map, List, [], ◌∷◌, length, Option, Some, None, codes, refl}
use Rattle.std.specs.List.{list_any}
use Rattle.std.proofs.Common.{arith}
use Rattle.mpd_model.specs.declared.place.DeclKind.TheVariants.{Variable}
use Rattle.mpd_model.specs.declared.expr.BinaryOp.TheVariants.{Equal, Less, Subtract}
use Rattle.mpd_model.specs.declared.call.Mode.TheVariants.{Rendezvous, Buffered}
use Rattle.mpd_model.specs.declared.stmt.Simple.TheVariants as st
use Rattle.mpd_model.specs.declared.outcome.Outcome.TheVariants as o
use Rattle.mpd_model.specs.script.Declaration.{Declared}
use Rattle.mpd_model.specs.script.Term.{Term, lit, own_rank, op2, Target}
use Rattle.mpd_model.specs.script.Tree.{Tree, simple, branch, no_more, then_more}
use Rattle.mpd_model.specs.script.Program.{Program}
use Rattle.mpd_model.specs.steps.World.{call_id, start}
use Rattle.mpd_model.specs.steps.Outcomes.{issued_by}
use Rattle.mpd_model.specs.runs.Decisions.{decision}
use Rattle.mpd_policy.specs.declared.ending.Ending.{Ending}
use Rattle.mpd_policy.specs.declared.ending.Ending.TheVariants.{Ended}
use Rattle.mpd_policy.specs.Walk.{Run, walk}
use Rattle.mpd_complete.specs.CompleteLaws.{was_cut, HasNoWaitany}
use Rattle.mpd_explore.specs.Sleeping.{awake_by}
use Rattle.mpd_complete.specs.Sleeping.{sleeping_walk}

abbrev n : ℕ → Term
n k = lit (pos k)

abbrev x : Target
x = record { place = record { declaration = 0; first = 0; cells = 1 }; index = None }

abbrev one_variable : List Declared
one_variable = record { kind = Variable; name = codes "x"; size = None } ∷ []

abbrev recv : Option Term → Tree
recv source = simple (st.Recv (record { into = x; from = source; tag = None; status = None }))

abbrev send_own_rank : Tree
send_own_rank = simple (st.Send (record { value = own_rank; to = n 0; tag = n 0 }))

-- if rank == 0 { recv x from any tag any; recv x from 2 tag any; } else { send rank to 0 tag 0; }
abbrev racing : Program
racing = record {
  version = 1;
  ranks = 3;
  decls = one_variable;
  body = branch (op2 Equal own_rank (n 0)) (then_more (recv None) (then_more (recv (Some (n 2))) no_more)) (then_more send_own_rank no_more) ∷ [];
  lines = 2 ∷ 2 ∷ 2 ∷ 2 ∷ [];
}

-- seven local steps, two matches and four wakes in the longer run: so many steps of fuel, and no
-- less, make the walk whole
pub row_racing : map {B = List ℕ × Ending} (λ (r : Run). (r.choices, r.ending)) (walk 13 (start racing Rendezvous))
    ≡ (0 ∷ [], Ended o.Done) ∷ (1 ∷ [], Ended (o.Deadlock (issued_by 2 (call_id 0 1) ∷ issued_by 3 (call_id 1 0) ∷ []))) ∷ []
unfolding walk decision
row_racing = refl

pub row_cut : map {B = Bool} (λ (f : ℕ). list_any (λ r. was_cut r.ending) (walk f (start racing Rendezvous))) (12 ∷ 13 ∷ []) ≡ true ∷ false ∷ []
unfolding walk decision
row_cut = refl

-- no statement of it is a waitany
pub row_none : HasNoWaitany racing
row_none = (((omega arith, (omega arith, tt)), (omega arith, tt)), tt)

-- ---- a walk that sleeps

-- ranks 0 and 1 each receive from any source what ranks 2 and 3 send them: if rank < 2 { recv x
-- from any tag any; } else { send rank to rank - 2 tag 0; }
abbrev own_pair : Tree
own_pair = simple (st.Send (record { value = own_rank; to = op2 Subtract own_rank (n 2); tag = n 0 }))

abbrev pairs : Program
pairs = record {
  version = 1;
  ranks = 4;
  decls = one_variable;
  body = branch (op2 Less own_rank (n 2)) (then_more (recv None) no_more) (then_more own_pair no_more) ∷ [];
  lines = 2 ∷ 2 ∷ 2 ∷ [];
}

-- the walk has both orders of the two matches, the one that sleeps has one of them
pub row_orders : map {B = List ℕ × Ending} (λ (r : Run). (r.choices, r.ending)) (walk 20 (start pairs Rendezvous)) ≡ (0 ∷ 0 ∷ [], Ended o.Done) ∷ (1 ∷ 0 ∷ [], Ended o.Done) ∷ []
unfolding walk decision
row_orders = refl

pub row_one_order : map {B = List ℕ × Ending} (λ (r : Run). (r.choices, r.ending)) (sleeping_walk 20 (start pairs Rendezvous)) ≡ (0 ∷ 0 ∷ [], Ended o.Done) ∷ []
unfolding awake_by decision
row_one_order = refl

-- two matches of one receive are two ends in both
pub row_both_ends : map {B = List ℕ × Ending} (λ (r : Run). (r.choices, r.ending)) (sleeping_walk 13 (start racing Rendezvous))
    ≡ (0 ∷ [], Ended o.Done) ∷ (1 ∷ [], Ended (o.Deadlock (issued_by 2 (call_id 0 1) ∷ issued_by 3 (call_id 1 0) ∷ []))) ∷ []
unfolding awake_by decision
row_both_ends = refl

-- three pairs of ranks: six orders, and one
abbrev three_pairs : Program
three_pairs = record pairs {
  ranks = 6;
  body = branch (op2 Less own_rank (n 3)) (then_more (recv None) no_more) (then_more (simple (st.Send (record { value = own_rank; to = op2 Subtract own_rank (n 3); tag = n 0 }))) no_more) ∷ [];
}

pub row_six_orders : length (walk 30 (start three_pairs Buffered)) ∷ length (sleeping_walk 30 (start three_pairs Buffered)) ∷ [] ≡ 6 ∷ 1 ∷ []
unfolding walk awake_by decision
row_six_orders = refl
