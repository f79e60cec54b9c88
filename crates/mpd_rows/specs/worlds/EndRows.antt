-- Worked rows of ends: calls of the same numbers that other statements issued are told apart, though their texts are the same.
use Rattle.std.specs.Prelude.{◌≡◌, ℕ, Bool, map, List, [], ◌∷◌, ◌++◌, Option, Some, None, codes, refl}
use Rattle.std.specs.Option.{option_map}
use Rattle.std.specs.Fmt.{digits}
use Rattle.mpd_model.specs.declared.place.Place.{Place}
use Rattle.mpd_model.specs.declared.expr.BinaryOp.TheVariants.{Equal}
use Rattle.mpd_model.specs.declared.step.Step.{Step}
use Rattle.mpd_model.specs.declared.step.Step.TheVariants.{Local, Match, Wake}
use Rattle.mpd_model.specs.declared.outcome.Outcome.{Outcome}
use Rattle.mpd_model.specs.declared.outcome.Outcome.TheVariants as o
use Rattle.mpd_model.specs.script.Term.{cell, own_rank, op2}
use Rattle.mpd_model.specs.script.Tree.{Tree, branch, no_more, then_more}
use Rattle.mpd_model.specs.script.Program.{Program}
use Rattle.mpd_model.specs.steps.World.{call_id}
use Rattle.mpd_model.specs.steps.Outcomes.{issued_by, outcome}
use Rattle.mpd_model.specs.texts.Texts.{outcome_text}
use Rattle.mpd_rows.specs.worlds.Statements.{send, recv, recv_any, isend}
use Rattle.mpd_rows.specs.calls.RequestRows.{n, whole, x, variable, request, script, two_parts, after}

abbrev y : Place
y = record { declaration = 1; first = 1; cells = 1 }

abbrev h : Place
h = record { declaration = 2; first = 0; cells = 1 }

-- Two messages are taken in either order, and then one of two calls is issued: if rank == 0 { recv x from any tag any; recv y from any tag
-- any; if x == 1 { FIRST } else { SECOND } } else { send rank to 0 tag 0; }
abbrev by_order : Tree → Tree → Program
by_order first second = script 3 (variable (codes "x") ∷ variable (codes "y") ∷ request (codes "h") None ∷ [])
    (two_parts
    (then_more (recv_any (whole x) None None None)
    (then_more (recv_any (whole y) None None None)
    (then_more (branch (op2 Equal (cell x) (n 1)) (then_more first no_more) (then_more second no_more)) no_more)))
    (then_more (send own_rank (n 0) (n 0)) no_more))

-- the message of rank a first, and then that of rank b
abbrev in_order : ℕ → ℕ → List Step
in_order a b =
    Local 0 ∷ Local 0 ∷ Local 1 ∷ Local 1 ∷ Local 2 ∷ Local 2 ∷ Match (call_id a 0) (call_id 0 0) ∷ Wake 0 ∷ Local 0 ∷ Match (call_id b 0) (call_id 0 1) ∷ Wake 0 ∷ Wake a ∷ Wake b
    ∷ Local 0 ∷ Local 0 ∷ []

abbrev both_ends : Program → List (Option (Option Outcome))
both_ends s = map (λ (steps : List Step). option_map outcome (after s steps)) (in_order 1 2 ∷ in_order 2 1 ∷ [])

-- the third call of rank 0 is a receive that nobody sends for, of statement 4 or 5
abbrev hanging : Program
hanging = by_order (recv (whole x) (n 1) (n 9)) (recv (whole x) (n 2) (n 9))

pub row_hanging : both_ends hanging ≡ Some (Some (o.Deadlock (issued_by 4 (call_id 0 2) ∷ []))) ∷ Some (Some (o.Deadlock (issued_by 5 (call_id 0 2) ∷ []))) ∷ []
row_hanging = refl

-- or a send that nobody takes
abbrev leaving : Program
leaving = by_order (isend (whole h) (n 1) (n 1) (n 9)) (isend (whole h) (n 1) (n 1) (n 9))

pub row_leaving : both_ends leaving ≡ Some (Some (o.Leftovers (issued_by 4 (call_id 0 2) ∷ []))) ∷ Some (Some (o.Leftovers (issued_by 5 (call_id 0 2) ∷ []))) ∷ []
row_leaving = refl

-- what is printed tells the calls alone
pub row_texts : map {B = List ℕ} outcome_text (o.Deadlock (issued_by 4 (call_id 0 2) ∷ []) ∷ o.Deadlock (issued_by 5 (call_id 0 2) ∷ []) ∷ o.Leftovers (issued_by 4 (call_id 0 2) ∷ issued_by 5 (call_id 1 3) ∷ []) ∷ [])
    ≡ codes "deadlock 0.2" ∷ codes "deadlock 0.2" ∷ codes "leftovers 0.2 1.3" ∷ []
unfolding digits
row_texts = refl
