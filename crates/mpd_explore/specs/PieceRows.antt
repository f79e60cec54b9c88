-- Worked rows of pieces and of the parts of a report. What is wanted was worked out by hand.
use Rattle.std.specs.Prelude.{◌≡◌, ℕ, pos, Bool, true, false, map, List, [], ◌∷◌, ◌++◌, None, codes, refl}
use Rattle.mpd_model.specs.declared.place.DeclKind.TheVariants.{Variable}
use Rattle.mpd_model.specs.declared.place.Place.{Place}
use Rattle.mpd_model.specs.declared.expr.BinaryOp.TheVariants.{Equal}
use Rattle.mpd_model.specs.declared.call.Mode.TheVariants.{Rendezvous}
use Rattle.mpd_model.specs.declared.stmt.Simple.TheVariants as st
use Rattle.mpd_model.specs.declared.outcome.Outcome.TheVariants as o
use Rattle.mpd_model.specs.script.Declaration.{Declared}
use Rattle.mpd_model.specs.script.Term.{Term, lit, own_rank, cell, op2}
use Rattle.mpd_model.specs.script.Tree.{Tree, simple, branch, no_more, then_more}
use Rattle.mpd_model.specs.script.Program.{Program}
use Rattle.mpd_model.specs.steps.World.{World, call_id, start}
use Rattle.mpd_model.specs.steps.Outcomes.{issued_by}
use Rattle.mpd_model.specs.runs.Decisions.{decision}
use Rattle.mpd_policy.specs.declared.ending.Ending.{Ending}
use Rattle.mpd_policy.specs.declared.ending.Ending.TheVariants.{Ended}
use Rattle.mpd_explore.specs.declared.report.SearchLeaf as leaf
use Rattle.mpd_explore.specs.declared.report.SearchLimits.{SearchLimits}
use Rattle.mpd_explore.specs.declared.report.Witnesses.TheVariants.{OfNone}
use Rattle.mpd_policy.specs.Walk.{walk}
use Rattle.mpd_explore.specs.Sleeping.{awake_by}
use Rattle.mpd_explore.specs.Pieces.{pieces, walk_from, part, split_report, split_more}

abbrev n : ℕ → Term
n k = lit (pos k)

abbrev x : Place
x = record { declaration = 0; first = 0; cells = 1 }

abbrev one_variable : List Declared
one_variable = record { kind = Variable; name = codes "x"; size = None } ∷ []

abbrev recv_any : Tree
recv_any = simple (st.Recv (record { into = record { place = x; index = None }; from = None; tag = None; status = None }))

abbrev send_own_rank : Tree
send_own_rank = simple (st.Send (record { value = own_rank; to = n 0; tag = n 0 }))

-- if rank == 0 { recv x from any tag any; if x == 1 { recv x from any tag any; } } else { send rank to 0 tag 0; }
abbrev asking : Program
asking = record {
  version = 1;
  ranks = 3;
  decls = one_variable;
  body = branch (op2 Equal own_rank (n 0)) (then_more recv_any (then_more (branch (op2 Equal (cell x) (n 1)) (then_more recv_any no_more) no_more) no_more)) (then_more send_own_rank no_more) ∷ [];
  lines = 2 ∷ 2 ∷ 2 ∷ 2 ∷ 2 ∷ [];
}

abbrev begun : World
begun = start asking Rendezvous

-- the same where the second receive is there only where the first has taken what rank 2 sent
abbrev turned : Program
turned = record {
  version = 1;
  ranks = 3;
  decls = one_variable;
  body = branch (op2 Equal own_rank (n 0)) (then_more recv_any (then_more (branch (op2 Equal (cell x) (n 2)) (then_more recv_any no_more) no_more) no_more)) (then_more send_own_rank no_more) ∷ [];
  lines = 2 ∷ 2 ∷ 2 ∷ 2 ∷ 2 ∷ [];
}

abbrev turned_begun : World
turned_begun = start turned Rendezvous

-- so many leaves at most, by a fuel of 20, up to the first bad one or not
abbrev up_to : Bool → ℕ → SearchLimits
up_to until_bad runs = record { runs = runs; fuel = 20; witnesses = OfNone; until_bad = until_bad; ends = false }

-- the second receive is there only where the first has taken what rank 1 sent; with a fuel of 5 no choice is come to
pub row_pieces : map {B = List (List ℕ)} (λ (q : ℕ × ℕ). pieces decision q.0 q.1 begun) ((0, 20) ∷ (1, 20) ∷ (2, 20) ∷ (3, 20) ∷ (2, 5) ∷ [])
    ≡ ([] ∷ []) ∷ ((0 ∷ []) ∷ (1 ∷ []) ∷ []) ∷ ((0 ∷ 0 ∷ []) ∷ (1 ∷ []) ∷ []) ∷ ((0 ∷ 0 ∷ []) ∷ (1 ∷ []) ∷ []) ∷ ([] ∷ []) ∷ []
unfolding pieces decision
row_pieces = refl

abbrev end_of : leaf.SearchLeaf → List ℕ × Ending
end_of l = (l.choices, l.ending)

abbrev both : List (List ℕ × Ending)
both = (0 ∷ 0 ∷ [], Ended o.Done) ∷ (1 ∷ [], Ended (o.Deadlock (issued_by 4 (call_id 1 0) ∷ []))) ∷ []

-- the runs by some choices: there is no third candidate, and none after a run's end
pub row_parts : map {B = List (List ℕ × Ending)} (λ (cs : List ℕ). map end_of (part (up_to false 2) cs begun)) ([] ∷ (0 ∷ []) ∷ (1 ∷ []) ∷ (2 ∷ []) ∷ (1 ∷ 0 ∷ []) ∷ [])
    ≡ both ∷ ((0 ∷ 0 ∷ [], Ended o.Done) ∷ []) ∷ ((1 ∷ [], Ended (o.Deadlock (issued_by 4 (call_id 1 0) ∷ []))) ∷ []) ∷ [] ∷ [] ∷ []
unfolding walk_from awake_by decision
row_parts = refl

-- a part has as many leaves as are asked for of it, so the parts have more than the whole; and none has more
pub row_reports : map {B = List (List ℕ × Ending)} (λ (q : ℕ × ℕ). map end_of (split_report q.0 (up_to false q.1) begun)) ((0, 1) ∷ (1, 1) ∷ (2, 1) ∷ (1, 0) ∷ []) ≡ ((0 ∷ 0 ∷ [], Ended o.Done) ∷ []) ∷ both ∷ both ∷ [] ∷ []
unfolding pieces walk_from awake_by walk decision
row_reports = refl

pub row_more : map {B = Bool} (λ (q : ℕ × ℕ). split_more q.0 (up_to false q.1) begun) ((0, 1) ∷ (0, 2) ∷ (1, 1) ∷ (1, 0) ∷ []) ≡ true ∷ false ∷ false ∷ true ∷ []
unfolding pieces walk_from awake_by walk decision
row_more = refl

-- where rank 1 comes first, nobody takes what rank 2 sent; else both are taken
abbrev first_bad : List (List ℕ × Ending)
first_bad = (0 ∷ [], Ended (o.Deadlock (issued_by 4 (call_id 2 0) ∷ []))) ∷ []

-- up to the first bad leaf, cut by no choice and by one, and each piece of one choice
pub row_until_bad : map {B = List (List ℕ × Ending)} (λ (q : ℕ × ℕ). map end_of (split_report q.0 (up_to true q.1) turned_begun)) ((0, 2) ∷ (1, 2) ∷ (1, 1) ∷ (1, 0) ∷ []) ≡ first_bad ∷ first_bad ∷ first_bad ∷ [] ∷ []
unfolding pieces walk_from awake_by walk decision
row_until_bad = refl

pub row_until_bad_more : map {B = Bool} (λ (q : ℕ × ℕ). split_more q.0 (up_to true q.1) turned_begun) ((0, 2) ∷ (1, 2) ∷ (1, 0) ∷ []) ≡ true ∷ true ∷ true ∷ []
unfolding pieces walk_from awake_by walk decision
row_until_bad_more = refl

-- the last leaf is the bad one
pub row_last_bad : map {B = List (List ℕ × Ending)} (λ (q : ℕ × ℕ). map end_of (split_report q.0 (up_to true q.1) begun)) ((0, 2) ∷ (1, 1) ∷ []) ≡ both ∷ both ∷ []
unfolding pieces walk_from awake_by walk decision
row_last_bad = refl

pub row_last_bad_more : map {B = Bool} (λ (q : ℕ × ℕ). split_more q.0 (up_to true q.1) begun) ((0, 1) ∷ (0, 2) ∷ (1, 1) ∷ []) ≡ true ∷ false ∷ false ∷ []
unfolding pieces walk_from awake_by walk decision
row_last_bad_more = refl

-- not up to the first bad leaf
pub row_all : map {B = List (List ℕ × Ending)} (λ (q : ℕ × ℕ). map end_of (split_report q.0 (up_to false q.1) turned_begun)) ((0, 2) ∷ (1, 2) ∷ []) ≡ (first_bad ++ (1 ∷ 0 ∷ [], Ended o.Done) ∷ []) ∷ (first_bad ++ (1 ∷ 0 ∷ [], Ended o.Done) ∷ []) ∷ []
unfolding pieces walk_from awake_by walk decision
row_all = refl
