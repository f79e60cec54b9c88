-- Worked rows of a wait for one of several requests. What is wanted was worked out by hand. No statement issues it yet: here it is issued after what scripts lead to.
use Rattle.std.specs.Prelude.{◌≡◌, ℕ, ℤ, pos, negsuc, map, List, [], ◌∷◌, ◌++◌, Option, Some, None, length, slice_get, codes, refl}
use Rattle.std.specs.Option.{option_map, option_and_then}
use Rattle.std.specs.Fmt.{digits}
use Rattle.mpd_model.specs.declared.expr.BinaryOp.TheVariants.{Subtract}
use Rattle.mpd_model.specs.declared.place.Place.{Place}
use Rattle.mpd_model.specs.declared.step.Step.{Step}
use Rattle.mpd_model.specs.declared.step.Step.TheVariants.{Local, Match, Wake, WakeAny}
use Rattle.mpd_model.specs.declared.decision.Decision.TheVariants.{Forced, Choice}
use Rattle.mpd_model.specs.declared.call.MatchSet.TheVariants.{Woke}
use Rattle.mpd_model.specs.script.Term.{Term, own_rank, op2}
use Rattle.mpd_model.specs.script.Tree.{no_more, then_more}
use Rattle.mpd_model.specs.script.Program.{Program}
use Rattle.mpd_model.specs.steps.World.{RankWorld, World, call_id, calls_of, last_call}
use Rattle.mpd_model.specs.steps.Next.{env_of, issued, waitany_issue, stepped, next, fold, enabled}
use Rattle.mpd_model.specs.runs.Decisions.{decision}
use Rattle.mpd_model.specs.texts.Texts.{call_text}
use Rattle.mpd_rows.specs.worlds.Statements.{assign, send, isend, irecv, irecv_any}
use Rattle.mpd_rows.specs.calls.RequestRows.{n, whole, part, variable, request, script, two_parts, after}

-- rank p of a world issues a waitany for the handles of a declaration, to a place
abbrev issued_by : Place → Place → World → ℕ → RankWorld → World
issued_by requests into w p r = stepped w p (issued r r.rest 40 (length (calls_of w.board p)) (waitany_issue (record { requests = requests; into = whole into }) (env_of p (length w.ranks) r)))

abbrev issues : Place → Place → ℕ → World → Option World
issues requests into p w = option_map (issued_by requests into w p) (slice_get w.ranks p)

abbrev leads : List Step → World → Option World
leads steps w = fold w steps

abbrev held : RankWorld → List ℤ × List (Option ℕ)
held r = (r.vars, r.handles)

abbrev seen : Option World → Option (List (List ℤ × List (Option ℕ)))
seen o = option_map (λ w. map held w.ranks) o

-- ---- one request, of which value, source, tag and index go to one cell

abbrev i : Place
i = record { declaration = 0; first = 0; cells = 1 }

abbrev r : ℕ → Place
r cells = record { declaration = 1; first = 0; cells = cells }

-- i = 9; irecv r[0] i from 0 tag any status i i; send 7 to 0 tag 3;
abbrev one_cell : Program
one_cell = script 1 (variable (codes "i") ∷ request (codes "r") (Some 1) ∷ [])
    (assign (whole i) (n 9) ∷ irecv_any (part (r 1) (n 0)) (whole i) (Some (n 0)) None (Some (whole i, whole i)) ∷ send (n 7) (n 0) (n 3) ∷ [])

-- waitany r to i;
abbrev waits_for_one : Option World
waits_for_one = option_and_then (issues (r 1) i 0) (after one_cell (Local 0 ∷ Local 0 ∷ Local 0 ∷ Match (call_id 0 1) (call_id 0 0) ∷ Wake 0 ∷ []))

-- no wake, and none of an index that is not there
pub row_refused : map {B = Option World} (λ a. option_and_then (λ w. next w a) waits_for_one) (Wake 0 ∷ WakeAny 0 1 ∷ WakeAny 1 0 ∷ Local 0 ∷ []) ≡ None ∷ None ∷ None ∷ None ∷ []
row_refused = refl

pub row_one : seen waits_for_one ≡ Some ((pos 9 ∷ [], Some 0 ∷ []) ∷ [])
row_one = refl

-- the value, the source and the tag, and then the index
pub row_one_on : seen (option_and_then (leads (WakeAny 0 0 ∷ [])) waits_for_one) ≡ Some ((pos 0 ∷ [], None ∷ []) ∷ [])
row_one_on = refl

pub row_one_set : option_map (λ w. w.board.sets) (option_and_then (leads (WakeAny 0 0 ∷ [])) waits_for_one) ≡ option_map (λ w. w.board.sets ++ Woke (call_id 0 2) ∷ []) waits_for_one
row_one_set = refl

pub row_one_enabled : option_map enabled waits_for_one ≡ Some (WakeAny 0 0 ∷ [])
row_one_enabled = refl

-- ---- no request

abbrev none_to_wait_for : Option World
none_to_wait_for = option_and_then (issues (r 2) i 0) (after (script 1 (variable (codes "i") ∷ request (codes "r") (Some 2) ∷ []) []) [])

pub row_none_refused : option_and_then (λ w. next w (WakeAny 0 0)) none_to_wait_for ≡ None
row_none_refused = refl

pub row_none : seen (option_and_then (leads (Wake 0 ∷ [])) none_to_wait_for) ≡ Some ((negsuc 0 ∷ [], None ∷ None ∷ []) ∷ [])
row_none = refl

pub row_texts : (option_map (λ w. call_text w.board (last_call w.board 0)) none_to_wait_for ≡ Some (codes "waitany 0 2 none")) × (option_map (λ w. call_text w.board (last_call w.board 0)) waits_for_one ≡ Some (codes "waitany 0 1"))
unfolding digits
row_texts = (refl, refl)

-- ---- two requests: which comes first is chosen once both are complete, and no earlier

abbrev x : Place
x = record { declaration = 0; first = 0; cells = 1 }

abbrev y : Place
y = record { declaration = 1; first = 1; cells = 1 }

abbrev j : Place
j = record { declaration = 2; first = 2; cells = 1 }

abbrev both : Place
both = record { declaration = 3; first = 0; cells = 2 }

-- if rank == 0 { irecv r[0] x from 1 tag 1; irecv r[1] y from 1 tag 2; waitany r to i; } else { send 5 to 0 tag 1; send 6 to 0 tag 2; }
abbrev racing : Program
racing = script 2 (variable (codes "x") ∷ variable (codes "y") ∷ variable (codes "i") ∷ request (codes "r") (Some 2) ∷ [])
    (two_parts
    (then_more (irecv (part both (n 0)) (whole x) (n 1) (n 1)) (then_more (irecv (part both (n 1)) (whole y) (n 1) (n 2)) no_more))
    (then_more (send (n 5) (n 0) (n 1)) (then_more (send (n 6) (n 0) (n 2)) no_more)))

abbrev waits_for_two : Option World
waits_for_two = option_and_then (issues both j 0) (after racing (Local 0 ∷ Local 0 ∷ Local 0 ∷ []))

abbrev sent_all : List Step
sent_all = Local 1 ∷ Local 1 ∷ Match (call_id 1 0) (call_id 0 0) ∷ Wake 1 ∷ Local 1 ∷ Match (call_id 1 1) (call_id 0 1) ∷ Wake 1 ∷ []

-- one is complete: a local step still comes first
pub row_first_complete : option_map decision (option_and_then (leads (Local 1 ∷ Local 1 ∷ Match (call_id 1 0) (call_id 0 0) ∷ Wake 1 ∷ [])) waits_for_two) ≡ Some (Forced (Local 1))
unfolding decision
row_first_complete = refl

pub row_choice : option_map decision (option_and_then (leads sent_all) waits_for_two) ≡ Some (Choice (WakeAny 0 0 ∷ WakeAny 0 1 ∷ []))
unfolding decision
row_choice = refl

pub row_chosen : map {B = Option (List (List ℤ × List (Option ℕ)))} (λ k. seen (option_and_then (leads (sent_all ++ WakeAny 0 k ∷ [])) waits_for_two)) (0 ∷ 1 ∷ [])
    ≡ Some ((pos 5 ∷ pos 0 ∷ pos 0 ∷ [], None ∷ Some 1 ∷ []) ∷ (pos 0 ∷ pos 0 ∷ pos 0 ∷ [], None ∷ None ∷ []) ∷ [])
    ∷ Some ((pos 0 ∷ pos 6 ∷ pos 1 ∷ [], Some 0 ∷ None ∷ []) ∷ (pos 0 ∷ pos 0 ∷ pos 0 ∷ [], None ∷ None ∷ []) ∷ []) ∷ []
row_chosen = refl

-- ---- four cells are written, and the handle after the first is cleared

abbrev source : Place
source = record { declaration = 1; first = 1; cells = 1 }

abbrev tag : Place
tag = record { declaration = 2; first = 2; cells = 1 }

abbrev index : Place
index = record { declaration = 3; first = 3; cells = 1 }

abbrev sending : Place
sending = record { declaration = 4; first = 0; cells = 1 }

abbrev two_more : Place
two_more = record { declaration = 5; first = 1; cells = 2 }

-- isend h 7 to 0 tag 3; irecv r[1] x from any tag any status source tag;
abbrev to_itself : Program
to_itself = script 1 (variable (codes "x") ∷ variable (codes "source") ∷ variable (codes "tag") ∷ variable (codes "i") ∷ request (codes "h") None ∷ request (codes "r") (Some 2) ∷ [])
    (isend (whole sending) (n 7) (n 0) (n 3) ∷ irecv_any (part two_more (n 1)) (whole x) None None (Some (whole source, whole tag)) ∷ [])

-- waitany to i, for the requests of a declaration
abbrev waits_for : Place → Option World
waits_for requests = option_and_then (issues requests index 0) (after to_itself (Local 0 ∷ Local 0 ∷ Match (call_id 0 0) (call_id 0 1) ∷ []))

pub row_second_alone : option_map enabled (waits_for two_more) ≡ Some (WakeAny 0 1 ∷ [])
row_second_alone = refl

pub row_four_cells : seen (option_and_then (leads (WakeAny 0 1 ∷ [])) (waits_for two_more)) ≡ Some ((pos 7 ∷ pos 0 ∷ pos 3 ∷ pos 1 ∷ [], Some 0 ∷ None ∷ None ∷ []) ∷ [])
row_four_cells = refl

-- of a send there is nothing to write but the index
pub row_of_a_send : seen (option_and_then (leads (WakeAny 0 0 ∷ [])) (waits_for sending)) ≡ Some ((pos 0 ∷ pos 0 ∷ pos 0 ∷ pos 0 ∷ [], None ∷ None ∷ Some 1 ∷ []) ∷ [])
row_of_a_send = refl

-- ---- two ranks, each of which waits for any of a receive and a send

-- irecv r[0] x from 1 - rank tag 1; isend r[1] 5 to 1 - rank tag 1; or with a receive of any source
abbrev other_rank : Term
other_rank = op2 Subtract (n 1) own_rank

abbrev crossing : Option Term → Program
crossing from =
    script 2 (variable (codes "x") ∷ variable (codes "y") ∷ variable (codes "i") ∷ request (codes "r") (Some 2) ∷ [])
    (irecv_any (part both (n 0)) (whole x) from (Some (n 1)) None ∷ isend (part both (n 1)) (n 5) other_rank (n 1) ∷ [])

abbrev both_wait : Option Term → List Step → Option World
both_wait from steps = option_and_then (issues both j 1) (option_and_then (issues both j 0) (after (crossing from) (Local 0 ∷ Local 0 ∷ Local 1 ∷ Local 1 ∷ steps)))

abbrev one_paired : List Step
one_paired = Match (call_id 0 1) (call_id 1 0) ∷ []

abbrev all_paired : List Step
all_paired = Match (call_id 0 1) (call_id 1 0) ∷ Match (call_id 1 1) (call_id 0 0) ∷ []

-- by rank and index
pub row_all_enabled : option_map enabled (both_wait (Some other_rank) all_paired) ≡ Some (WakeAny 0 0 ∷ WakeAny 0 1 ∷ WakeAny 1 0 ∷ WakeAny 1 1 ∷ [])
row_all_enabled = refl

-- after the wakes, of which there is none, and before the matches
pub row_before_matches : option_map enabled (both_wait (Some other_rank) one_paired) ≡ Some (WakeAny 0 1 ∷ WakeAny 1 0 ∷ Match (call_id 1 1) (call_id 0 0) ∷ [])
row_before_matches = refl

-- the choice is that of the lowest rank; a match whose receive names its source comes before it, and one of any source after it
pub row_decisions : option_map decision (both_wait (Some other_rank) all_paired) ∷ option_map decision (both_wait (Some other_rank) one_paired) ∷ option_map decision (both_wait None one_paired) ∷ []
    ≡ Some (Choice (WakeAny 0 0 ∷ WakeAny 0 1 ∷ [])) ∷ Some (Forced (Match (call_id 1 1) (call_id 0 0))) ∷ Some (Choice (WakeAny 0 1 ∷ [])) ∷ []
unfolding decision
row_decisions = refl

-- once rank 0 has gone on, rank 1 chooses
pub row_next_rank : option_map decision (option_and_then (leads (WakeAny 0 1 ∷ [])) (both_wait (Some other_rank) all_paired)) ≡ Some (Choice (WakeAny 1 0 ∷ WakeAny 1 1 ∷ []))
unfolding decision
row_next_rank = refl
