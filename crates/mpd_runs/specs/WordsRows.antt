-- Worked rows of words: choices that tell a run and such that don't, and texts of choices. What is wanted was worked out by hand.
use Rattle.std.specs.Prelude.{◌≡◌, ℕ, pos, map, List, [], ◌∷◌, ◌++◌, Option, Some, None, codes, refl}
use Rattle.std.specs.Fmt.{digits}
use Rattle.mpd_model.specs.declared.place.DeclKind.TheVariants.{Variable}
use Rattle.mpd_model.specs.declared.place.Place.{Place}
use Rattle.mpd_model.specs.declared.expr.BinaryOp.TheVariants.{Equal}
use Rattle.mpd_model.specs.declared.call.Mode.TheVariants.{Rendezvous}
use Rattle.mpd_model.specs.declared.step.Step.{Step}
use Rattle.mpd_model.specs.declared.step.Step.TheVariants.{Local, Match, Wake}
use Rattle.mpd_model.specs.declared.stmt.Simple.TheVariants as st
use Rattle.mpd_model.specs.script.Declaration.{Declared}
use Rattle.mpd_model.specs.script.Term.{Term, lit, own_rank, cell, op2}
use Rattle.mpd_model.specs.script.Tree.{Tree, simple, branch, no_more, then_more}
use Rattle.mpd_model.specs.script.Program.{Program}
use Rattle.mpd_model.specs.steps.World.{World, call_id, start}
use Rattle.mpd_model.specs.runs.Decisions.{decision}
use Rattle.mpd_policy.specs.Walk.{run_by}
use Rattle.mpd_runs.specs.Place.{bad_place}
use Rattle.mpd_runs.specs.Along.{steps_at}
use Rattle.mpd_runs.specs.Choices.{choices_of}
use Rattle.mpd_runs.specs.Written.{words_text}

abbrev n : ℕ → Term
n k = lit (pos k)

abbrev x : Place
x = record { declaration = 0; first = 0; cells = 1 }

abbrev one_variable : List Declared
one_variable = record { kind = Variable; name = codes "x"; size = None } ∷ []

abbrev recv_any : Tree
recv_any = simple (st.Recv (record { into = record { place = x; index = None }; from = None; tag = None; status = None }))

abbrev send_own_rank : Tree
send_own_rank = simple (st.Send (record { value = own_rank; to = n 0; tag = n 0 }))

-- if rank == 0 { recv x from any tag any; if x == 1 { recv x from any tag any; } } else { send rank to 0 tag 0; }
abbrev asking : Program
asking = record {
  version = 1;
  ranks = 3;
  decls = one_variable;
  body = branch (op2 Equal own_rank (n 0)) (then_more recv_any (then_more (branch (op2 Equal (cell x) (n 1)) (then_more recv_any no_more) no_more) no_more)) (then_more send_own_rank no_more) ∷ [];
  lines = 2 ∷ 2 ∷ 2 ∷ 2 ∷ 2 ∷ [];
}

abbrev begun : World
begun = start asking Rendezvous

abbrev right : Option ℕ
right = None

abbrev wrong : ℕ → Option ℕ
wrong k = Some k

abbrev no_run : Option (List Step)
no_run = None

-- the choice is come to after six steps, which nobody has to choose
abbrev six : List Step
six = Local 0 ∷ Local 0 ∷ Local 1 ∷ Local 1 ∷ Local 2 ∷ Local 2 ∷ []

abbrev first_taken : List Step
first_taken = Match (call_id 1 0) (call_id 0 0) ∷ Wake 0 ∷ Local 0 ∷ Local 0 ∷ Wake 1 ∷ Match (call_id 2 0) (call_id 0 1) ∷ Wake 0 ∷ Wake 2 ∷ []

abbrev second_taken : List Step
second_taken = Match (call_id 2 0) (call_id 0 0) ∷ Wake 0 ∷ Local 0 ∷ Wake 2 ∷ []

abbrev asked : ℕ × List ℕ → Option (List Step)
asked q = steps_at decision q.0 q.1 begun

abbrev place : ℕ × List ℕ → Option ℕ
place q = bad_place decision q.0 0 q.1 begun

-- both runs, and the beginnings of one for want of fuel, at the choice and right after it
pub row_steps : map {B = Option (List Step)} asked ((20, 0 ∷ 0 ∷ []) ∷ (20, 1 ∷ []) ∷ (6, []) ∷ (7, 0 ∷ []) ∷ [])
    ≡ Some (six ++ first_taken) ∷ Some (six ++ second_taken) ∷ Some six ∷ Some (six ++ Match (call_id 1 0) (call_id 0 0) ∷ []) ∷ []
unfolding run_by decision
row_steps = refl

pub row_right : map {B = Option ℕ} place ((20, 0 ∷ 0 ∷ []) ∷ (20, 1 ∷ []) ∷ (6, []) ∷ (7, 0 ∷ []) ∷ []) ≡ right ∷ right ∷ right ∷ right ∷ []
unfolding bad_place decision
row_right = refl

-- too few choices; fewer candidates; choices after the end; and after the last step that there is fuel for
abbrev none_of : List (ℕ × List ℕ)
none_of = (20, []) ∷ (20, 0 ∷ []) ∷ (7, []) ∷ (20, 2 ∷ []) ∷ (20, 2 ∷ 0 ∷ []) ∷ (20, 0 ∷ 1 ∷ []) ∷ (20, 1 ∷ 0 ∷ []) ∷ (20, 0 ∷ 0 ∷ 0 ∷ []) ∷ (6, 0 ∷ []) ∷ (7, 0 ∷ 0 ∷ []) ∷ (0, 5 ∷ []) ∷ []

pub row_wrong : map {B = Option ℕ} place none_of ≡ wrong 0 ∷ wrong 1 ∷ wrong 0 ∷ wrong 0 ∷ wrong 0 ∷ wrong 1 ∷ wrong 1 ∷ wrong 2 ∷ wrong 0 ∷ wrong 1 ∷ wrong 0 ∷ []
unfolding bad_place decision
row_wrong = refl

pub row_none : map {B = Option (List Step)} asked none_of ≡ no_run ∷ no_run ∷ no_run ∷ no_run ∷ no_run ∷ no_run ∷ no_run ∷ no_run ∷ no_run ∷ no_run ∷ no_run ∷ []
unfolding run_by decision
row_none = refl

-- ---- texts

abbrev read : List ℕ → Option (List ℕ)
read cs = Some cs

abbrev unread : Option (List ℕ)
unread = None

pub row_choices : map {B = Option (List ℕ)} choices_of (codes "0 1 0" ∷ [] ∷ codes "   " ∷ codes "7" ∷ codes "  7  12 " ∷ codes "000000003" ∷ codes "123456789" ∷ [])
    ≡ read (0 ∷ 1 ∷ 0 ∷ []) ∷ read [] ∷ read [] ∷ read (7 ∷ []) ∷ read (7 ∷ 12 ∷ []) ∷ read (3 ∷ []) ∷ read (123456789 ∷ []) ∷ []
row_choices = refl

pub row_no_choices : map {B = Option (List ℕ)} choices_of (codes "1234567890" ∷ codes "0,1" ∷ codes "0 -1" ∷ codes "x" ∷ codes "[0]" ∷ codes "0 1." ∷ []) ≡ unread ∷ unread ∷ unread ∷ unread ∷ unread ∷ unread ∷ []
row_no_choices = refl

pub row_text : words_text (Local 0 ∷ Match (call_id 1 0) (call_id 0 0) ∷ Wake 12 ∷ []) ≡ codes "local 0\nmatch 1.0 0.0\nwake 12\n"
unfolding digits
row_text = refl
