-- Worked rows of the runs from where a trail stands: of a script whose ends no walk by the plain decisions has all. What is wanted was worked
-- out by hand.
use Rattle.std.specs.Prelude.{◌≡◌, ℕ, pos, map, List, [], ◌∷◌, ◌++◌, Option, Some, None, Bool, true, false, codes, refl}
use Rattle.std.specs.Option.{option_map}
use Rattle.mpd_model.specs.declared.place.DeclKind.TheVariants.{Variable}
use Rattle.mpd_model.specs.declared.expr.BinaryOp.TheVariants.{Equal}
use Rattle.mpd_model.specs.declared.call.Mode.TheVariants.{Slots}
use Rattle.mpd_model.specs.declared.step.Step.{Step}
use Rattle.mpd_model.specs.declared.step.Step.TheVariants.{Local, Match, Wake}
use Rattle.mpd_model.specs.declared.stmt.Simple.TheVariants as st
use Rattle.mpd_model.specs.declared.outcome.Outcome.TheVariants as o
use Rattle.mpd_model.specs.script.Term.{Term, lit, own_rank, op2}
use Rattle.mpd_model.specs.script.Tree.{Tree, simple, branch, no_more, then_more}
use Rattle.mpd_model.specs.script.Program.{Program}
use Rattle.mpd_model.specs.steps.World.{World, call_id, start}
use Rattle.mpd_model.specs.steps.Outcomes.{issued_by}
use Rattle.mpd_policy.specs.Wide.{wide_decision}
use Rattle.mpd_policy.specs.declared.ending.Ending.TheVariants.{Ended}
use Rattle.mpd_outcomes.specs.declared.report.Count.TheVariants.{Exactly}
use Rattle.mpd_policy.specs.Walk.{run_by}
use Rattle.mpd_explore.specs.Sleeping.{awake_by}
use Rattle.mpd_explore.specs.declared.report.SearchLeaf.{SearchLeaf}
use Rattle.mpd_runs.specs.declared.search.WholeRun.{WholeRun}
use Rattle.mpd_runs.specs.declared.way.Way.{Way}
use Rattle.mpd_runs.specs.declared.way.Way.TheVariants as way
use Rattle.mpd_runs.specs.Ways.{first_in}
use Rattle.mpd_runs.specs.declared.counts.WayCounts.{WayCounts}
use Rattle.mpd_runs.specs.Counts.{counts_of}
use Rattle.mpd_runs.specs.Runs.{first_runs, are_more, sees_all}
use Rattle.mpd_runs.specs.Seek.{whole_run}

abbrev n : ℕ → Term
n k = lit (pos k)

abbrev send_tagged : ℕ → Tree
send_tagged tag = simple (st.Send (record { value = n 1; to = n 1; tag = n tag }))

abbrev recv_first : Tree
recv_first = simple (st.Recv (record { into = record { place = record { declaration = 0; first = 0; cells = 1 }; index = None }; from = Some (n 0); tag = Some (n 0); status = None }))

-- if rank == 0 { send 1 to 1 tag 0; send 1 to 1 tag 1; } else { recv x from 0 tag 0; }
abbrev two_sends : Program
two_sends = record {
  version = 1;
  ranks = 2;
  decls = record { kind = Variable; name = codes "x"; size = None } ∷ [];
  body = branch (op2 Equal own_rank (n 0)) (then_more (send_tagged 0) (then_more (send_tagged 1) no_more)) (then_more recv_first no_more) ∷ [];
  lines = 2 ∷ 2 ∷ 2 ∷ 2 ∷ [];
}

-- With one slot, which the first send holds until it is matched, it matters what comes first: the second send or that match.
abbrev begun : World
begun = start two_sends (Slots 1)

abbrev five : List Step
five = Local 0 ∷ Local 0 ∷ Local 1 ∷ Local 1 ∷ Wake 0 ∷ []

abbrev pair : Step
pair = Match (call_id 0 0) (call_id 1 0)

-- the second send finds no slot, and nothing receives it; or it finds one
abbrev stuck : WholeRun
stuck = record { steps = five ++ Local 0 ∷ pair ∷ Wake 1 ∷ []; ending = Ended (o.Deadlock (issued_by 2 (call_id 0 1) ∷ [])) }

abbrev left_over : WholeRun
left_over = record { steps = five ++ pair ∷ Local 0 ∷ Wake 0 ∷ Wake 1 ∷ []; ending = Ended (o.Leftovers (issued_by 2 (call_id 0 1) ∷ [])) }

pub row_found : map {B = Option WholeRun} (λ (x : Way). option_map (whole_run [] 9 begun) (first_in x (first_runs 9 9 begun))) (way.Deadlock ∷ way.Leftovers ∷ way.Done ∷ []) ≡ Some stuck ∷ Some left_over ∷ None ∷ []
unfolding awake_by wide_decision run_by
row_found = refl

-- both are listed, the one that takes the second send first
abbrev a_leaf : List ℕ → WholeRun → SearchLeaf
a_leaf choices r = record { choices = choices; ending = r.ending }

pub row_listed : first_runs 9 9 begun ≡ a_leaf (0 ∷ 0 ∷ []) stuck ∷ a_leaf (1 ∷ []) left_over ∷ []
unfolding awake_by wide_decision
row_listed = refl

pub row_no_more : are_more 9 9 begun ≡ false
unfolding awake_by wide_decision
row_no_more = refl

-- so many runs at most, and so much fuel: all of them are counted, one where there are more, and one that is cut where the choice is
abbrev ends : ℕ → ℕ → ℕ → ℕ → Bool → WayCounts
ends leftovers deadlocks cut total more = record { done = Exactly 0; leftovers = Exactly leftovers; deadlock = Exactly deadlocks; trap = Exactly 0; cut = Exactly cut; total = Exactly total; more = more }

abbrev counted_for : ℕ × ℕ → WayCounts
counted_for s = counts_of (first_runs s.0 s.1 begun) (are_more s.0 s.1 begun)

pub row_counts : map {B = WayCounts} counted_for ((9, 9) ∷ (1, 9) ∷ (9, 5) ∷ []) ≡ ends 1 1 0 2 false ∷ ends 0 1 0 1 true ∷ ends 0 0 1 1 false ∷ []
unfolding awake_by wide_decision
row_counts = refl

-- of these the first alone have all ways to end
pub row_sees_all : map {B = Bool} sees_all (ends 1 1 0 2 false ∷ ends 0 1 0 1 true ∷ ends 0 0 1 1 false ∷ []) ≡ true ∷ false ∷ false ∷ []
row_sees_all = refl
