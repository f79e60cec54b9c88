-- Worked rows of scripts with a waitany, of which a walk that is nowhere cut leaves out ends, or
-- has one twice.
use Rattle.std.specs.Prelude.{◌≡◌, ℕ, ◌+◌, pos, true, map, List, [], ◌∷◌, ◌++◌, replicate, Some, None, is_some, codes, refl}
use Rattle.std.specs.Option.{option_map}
use Rattle.std.proofs.Common.{arith}
use Rattle.mpd_model.specs.declared.place.DeclKind.TheVariants.{Variable, Handle}
use Rattle.mpd_model.specs.declared.place.Place.{Place}
use Rattle.mpd_model.specs.declared.expr.BinaryOp.TheVariants.{Equal}
use Rattle.mpd_model.specs.declared.step.Step.{Step}
use Rattle.mpd_model.specs.declared.step.Step.TheVariants.{Local, Match, WakeAny}
use Rattle.mpd_model.specs.declared.call.Mode.TheVariants.{Rendezvous, Buffered}
use Rattle.mpd_model.specs.declared.call.Trap.TheVariants.{Assertion}
use Rattle.mpd_model.specs.declared.stmt.Simple.TheVariants as st
use Rattle.mpd_model.specs.declared.outcome.Outcome.{Outcome}
use Rattle.mpd_model.specs.declared.outcome.Outcome.TheVariants as o
use Rattle.mpd_model.specs.script.Term.{Term, lit, cell, op2, Target}
use Rattle.mpd_model.specs.script.Tree.{Tree, simple, repeat, no_more, then_more, block_of, statements_in}
use Rattle.mpd_model.specs.script.Program.{Program}
use Rattle.mpd_model.specs.steps.World.{call_id, start}
use Rattle.mpd_model.specs.steps.Next.{fold, enabled}
use Rattle.mpd_model.specs.steps.Outcomes.{ending}
use Rattle.mpd_model.specs.runs.Decisions.{decision}
use Rattle.mpd_policy.specs.declared.ending.Ending.{Ending}
use Rattle.mpd_policy.specs.declared.ending.Ending.TheVariants.{Ended}
use Rattle.mpd_policy.specs.Walk.{Run, walk}
use Rattle.mpd_complete.specs.CompleteLaws.{HasNoWaitany}
use Rattle.mpd_explore.specs.Sleeping.{awake_by}
use Rattle.mpd_complete.specs.Sleeping.{sleeping_walk}

abbrev n : ℕ → Term
n k = lit (pos k)

abbrev x : Place
x = record { declaration = 0; first = 0; cells = 1 }

abbrev i : Place
i = record { declaration = 1; first = 1; cells = 1 }

abbrev requests : Place
requests = record { declaration = 2; first = 0; cells = 2 }

abbrev whole : Place → Target
whole p = record { place = p; index = None }

abbrev request : ℕ → Target
request k = record { place = requests; index = Some (n k) }

abbrev waitany : Tree
waitany = simple (st.Waitany (record { requests = requests; into = whole i }))

-- var x; var i; req r[2]; isend r[0] 7 to 0 tag 0; irecv r[1] x from any tag any; waitany r to i;
-- and then these statements
abbrev of_two : List Tree → Program
of_two behind = record {
  version = 2;
  ranks = 1;
  decls = record { kind = Variable; name = codes "x"; size = None } ∷ record { kind = Variable; name = codes "i"; size = None } ∷ record { kind = Handle; name = codes "r"; size = Some 2 } ∷ [];
  body = simple (st.Isend (record { request = request 0; send = record { value = n 7; to = n 0; tag = n 0 } }))
      ∷ simple (st.Irecv (record { request = request 1; recv = record { into = whole x; from = None; tag = None; status = None } }))
      ∷ waitany
      ∷ behind;
  lines = replicate (3 + statements_in (block_of behind)) 2;
}

-- where the send is buffered it is complete at once, and the walk goes on by it before it takes the
-- match
abbrev matched_first : List Step
matched_first = Local 0 ∷ Local 0 ∷ Local 0 ∷ Match (call_id 0 0) (call_id 0 1) ∷ WakeAny 0 1 ∷ []

abbrev is_first : Term
is_first = op2 Equal (cell i) (n 0)

-- ---- an end that is left out: assert i == 0;

abbrev pub asserting : Program
asserting = of_two (simple (st.Assert is_first) ∷ [])

pub row_walk : map {B = List ℕ × Ending} (λ (r : Run). (r.choices, r.ending)) (walk 6 (start asserting Buffered)) ≡ (0 ∷ 0 ∷ [], Ended o.Done) ∷ []
unfolding walk decision
row_walk = refl

pub row_left_out : option_map {U = Outcome × List Step} (λ w. (ending w, enabled w)) (fold (start asserting Buffered) (matched_first ++ Local 0 ∷ []))
    ≡ Some (o.Trap (record { rank = 0; statement = 3; trap = Assertion } ∷ []), [])
row_left_out = refl

-- ---- a run that is longer than the fuel: while i == 1 { print i; }

abbrev looping : Program
looping = of_two (repeat (op2 Equal (cell i) (n 1)) (then_more (simple (st.Print (cell i))) no_more) ∷ [])

pub row_short : map {B = List ℕ × Ending} (λ (r : Run). (r.choices, r.ending)) (walk 6 (start looping Buffered)) ≡ (0 ∷ 0 ∷ [], Ended o.Done) ∷ []
unfolding walk decision
row_short = refl

pub row_longer : is_some (fold (start looping Buffered) (matched_first ++ replicate 8 (Local 0))) ≡ true
row_longer = refl

-- ---- one end twice: waitany r to i; i = 0;

abbrev pub answering : Program
answering = of_two (waitany ∷ simple (st.Assign (record { into = whole i; value = n 0 })) ∷ [])

abbrev pub answered : ℕ → ℕ → List Step
answered first second = Local 0 ∷ Local 0 ∷ Local 0 ∷ Match (call_id 0 0) (call_id 0 1) ∷ WakeAny 0 first ∷ Local 0 ∷ WakeAny 0 second ∷ Local 0 ∷ []

pub row_twice : map (λ (r : Run). r.steps) (sleeping_walk 8 (start answering Rendezvous)) ≡ answered 0 1 ∷ answered 1 0 ∷ []
unfolding awake_by decision
row_twice = refl

pub row_one_end : fold (start answering Rendezvous) (answered 0 1) ≡ fold (start answering Rendezvous) (answered 1 0)
row_one_end = refl

-- ---- which scripts have none

pub row_some : HasNoWaitany asserting → ⊥
row_some h = omega (arith, h.1.1.0)
