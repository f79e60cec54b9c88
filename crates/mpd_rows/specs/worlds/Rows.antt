-- Worked rows, by computing: scripts and worlds written out by hand, and what steps make of them.
use Rattle.std.specs.Prelude.{◌≡◌, ℕ, ℤ, pos, true, false, map, List, [], ◌∷◌, Some, None, refl}
use Rattle.std.specs.Option.{option_map}
use Rattle.mpd_model.specs.declared.expr.BinaryOp.TheVariants.{Equal}
use Rattle.mpd_model.specs.declared.place.DeclKind.TheVariants.{Variable}
use Rattle.mpd_model.specs.declared.place.Place.{Place}
use Rattle.mpd_model.specs.declared.step.Step.{Step}
use Rattle.mpd_model.specs.declared.step.Step.TheVariants.{Local, Match, Wake, Release}
use Rattle.mpd_model.specs.declared.call.Call.{Call}
use Rattle.mpd_model.specs.declared.call.CallKind.TheVariants.{Send, Recv}
use Rattle.mpd_model.specs.declared.call.Mode.TheVariants.{Rendezvous, Buffered}
use Rattle.mpd_model.specs.declared.call.Trap.TheVariants.{BadRank, BadTag}
use Rattle.mpd_model.specs.declared.call.Activity.{Activity}
use Rattle.mpd_model.specs.declared.call.Activity.TheVariants.{Running, Blocked, Trapped}
use Rattle.mpd_model.specs.declared.call.MatchSet.TheVariants.{Pair, Woke}
use Rattle.mpd_model.specs.declared.outcome.Outcome.TheVariants as o
use Rattle.mpd_model.specs.declared.outcome.TrappedRank.{TrappedRank}
use Rattle.mpd_model.specs.script.Term.{Term, lit, own_rank, cell, op2, Target}
use Rattle.mpd_model.specs.script.Tree.{Tree, branch, no_more, then_more}
use Rattle.mpd_model.specs.script.Program.{Program}
use Rattle.mpd_model.specs.steps.World.{RankWorld, World, call_id, start, pending, posted, eligible}
use Rattle.mpd_model.specs.steps.Next.{next, fold, enabled}
use Rattle.mpd_model.specs.steps.Outcomes.{issued_by, outcome}
use Rattle.mpd_model.specs.runs.Trail.{Trail, opening, applied, taken_back, redone, gone_back, forgotten, with_steps, world_of}
use Rattle.mpd_rows.specs.worlds.Statements.{print, send, recv}

abbrev x : Place
x = record { declaration = 0; first = 0; cells = 1 }

abbrev into : Place → Target
into p = record { place = p; index = None }

abbrev n : ℕ → Term
n k = lit (pos k)

abbrev trap_at : ℕ → TrappedRank
trap_at p = record { rank = p; statement = 0; trap = BadRank }

abbrev script : ℕ → List Tree → Program
script ranks body = record { version = 1; ranks = ranks; decls = record { kind = Variable; name = 120 ∷ []; size = None } ∷ []; body = body; lines = [] }

-- what a world shows of each rank: its variables, its output and what it is doing
abbrev seen : World → List (List ℤ × (List ℤ × Activity))
seen w = map {B = List ℤ × (List ℤ × Activity)} (λ r. (r.vars, (r.out, r.activity))) w.ranks

abbrev numbers_left : World → List (List ℕ)
numbers_left w = map {B = List ℕ} (λ r. map {B = ℕ} (λ t. t.0) r.rest) w.ranks

-- ---- one message, forward

abbrev one_message : Program
one_message = script 2
    (branch (op2 Equal own_rank (n 0)) (then_more (send (n 7) (n 1) (n 0)) no_more)
    (then_more (recv (into x) (n 0) (n 0)) (then_more (print (cell x)) no_more)) ∷ [])

abbrev one_message_steps : List Step
one_message_steps = Local 0 ∷ Local 0 ∷ Local 1 ∷ Local 1 ∷ Match (call_id 0 0) (call_id 1 0) ∷ Wake 0 ∷ Wake 1 ∷ Local 1 ∷ []

pub row_one_message : option_map seen (fold (start one_message Rendezvous) one_message_steps) ≡ Some ((pos 0 ∷ [], ([], Running)) ∷ (pos 7 ∷ [], (pos 7 ∷ [], Running)) ∷ [])
row_one_message = refl

pub row_one_message_sets : option_map (λ w. w.board.sets) (fold (start one_message Rendezvous) one_message_steps) ≡ Some (Pair (call_id 0 0) (call_id 1 0) ∷ Woke (call_id 0 0) ∷ Woke (call_id 1 0) ∷ [])
row_one_message_sets = refl

pub row_one_message_done : option_map outcome (fold (start one_message Rendezvous) one_message_steps) ≡ Some (Some o.Done)
row_one_message_done = refl

-- statements keep their numbers: the `else` block's come after those of the first block
pub row_numbers : option_map numbers_left (fold (start one_message Rendezvous) (Local 0 ∷ Local 1 ∷ [])) ≡ Some ((1 ∷ []) ∷ (2 ∷ 3 ∷ []) ∷ [])
row_numbers = refl

pub row_pending : option_map (λ w. pending w.board 0 1) (fold (start one_message Rendezvous) (Local 0 ∷ Local 0 ∷ [])) ≡ Some (0 ∷ [])
row_pending = refl

pub row_posted : option_map (λ w. posted w.board 1) (fold (start one_message Rendezvous) (Local 0 ∷ Local 0 ∷ Local 1 ∷ Local 1 ∷ [])) ≡ Some (0 ∷ [])
row_posted = refl

-- nothing is woken before its match, no rank runs past its end, and no release is enabled
pub row_early_wake : fold (start one_message Rendezvous) (Local 0 ∷ Local 0 ∷ Wake 0 ∷ []) ≡ None
row_early_wake = refl

pub row_blocked : fold (start one_message Rendezvous) (Local 0 ∷ Local 0 ∷ Local 0 ∷ []) ≡ None
row_blocked = refl

pub row_no_rank : next (start one_message Rendezvous) (Local 2) ≡ None
row_no_rank = refl

pub row_release : next (start one_message Rendezvous) Release ≡ None
row_release = refl

pub row_enabled : option_map enabled (fold (start one_message Rendezvous) (Local 0 ∷ Local 0 ∷ Local 1 ∷ Local 1 ∷ [])) ≡ Some (Match (call_id 0 0) (call_id 1 0) ∷ [])
row_enabled = refl

pub row_opening : enabled (start one_message Rendezvous) ≡ Local 0 ∷ Local 1 ∷ []
row_opening = refl

-- ---- traps

-- both ranks send to a rank that isn't there: each is trapped, and its send is still what is left to run
abbrev bad_destination : Program
bad_destination = script 2 (send (n 1) (n 2) (n 0) ∷ [])

pub row_bad_rank : option_map outcome (fold (start bad_destination Rendezvous) (Local 0 ∷ Local 1 ∷ [])) ≡ Some (Some (o.Trap (trap_at 0 ∷ trap_at 1 ∷ [])))
row_bad_rank = refl

pub row_bad_rank_rest : option_map numbers_left (fold (start bad_destination Rendezvous) (Local 0 ∷ [])) ≡ Some ((0 ∷ []) ∷ (0 ∷ []) ∷ [])
row_bad_rank_rest = refl

pub row_trapped_stays : fold (start bad_destination Rendezvous) (Local 0 ∷ Local 0 ∷ []) ≡ None
row_trapped_stays = refl

-- a trap of one rank stops no other: while rank 1 can run there is no outcome
pub row_other_runs : option_map outcome (fold (start bad_destination Rendezvous) (Local 0 ∷ [])) ≡ Some None
row_other_runs = refl

-- a trap inside a nested `if`: nothing but what the rank is doing has changed
abbrev nested_trap : Program
nested_trap = script 1 (branch (n 1) (then_more (branch (n 1) (then_more (send (n 5) (n 0) (n 32768)) no_more) no_more) no_more) no_more ∷ print (n 3) ∷ [])

pub row_nested_trap : option_map seen (fold (start nested_trap Rendezvous) (Local 0 ∷ Local 0 ∷ Local 0 ∷ [])) ≡ Some ((pos 0 ∷ [], ([], Trapped BadTag)) ∷ [])
row_nested_trap = refl

-- the outcome says at which statement: the third in text order
pub row_nested_trap_told : option_map outcome (fold (start nested_trap Rendezvous) (Local 0 ∷ Local 0 ∷ Local 0 ∷ [])) ≡ Some (Some (o.Trap (record { rank = 0; statement = 2; trap = BadTag } ∷ [])))
row_nested_trap_told = refl

pub row_nested_trap_rest : option_map numbers_left (fold (start nested_trap Rendezvous) (Local 0 ∷ Local 0 ∷ Local 0 ∷ [])) ≡ Some ((2 ∷ 3 ∷ []) ∷ [])
row_nested_trap_rest = refl

-- the destination is checked before the tag
pub row_rank_first : option_map seen (fold (start (script 1 (send (n 1) (n 9) (n 99999) ∷ [])) Rendezvous) (Local 0 ∷ [])) ≡ Some ((pos 0 ∷ [], ([], Trapped BadRank)) ∷ [])
row_rank_first = refl

pub row_largest_tag : option_map seen (fold (start (script 1 (send (n 1) (n 0) (n 32767) ∷ [])) Rendezvous) (Local 0 ∷ [])) ≡ Some ((pos 0 ∷ [], ([], Blocked)) ∷ [])
row_largest_tag = refl

-- ---- a rank that sends to itself waits for ever, unless sends are buffered

abbrev to_itself : Program
to_itself = script 1 (send (n 1) (n 0) (n 0) ∷ recv (into x) (n 0) (n 0) ∷ [])

pub row_to_itself : option_map outcome (fold (start to_itself Rendezvous) (Local 0 ∷ [])) ≡ Some (Some (o.Deadlock (issued_by 0 (call_id 0 0) ∷ [])))
row_to_itself = refl

pub row_to_itself_buffered : option_map seen (fold (start to_itself Buffered) (Local 0 ∷ Wake 0 ∷ Local 0 ∷ Match (call_id 0 0) (call_id 0 1) ∷ Wake 0 ∷ [])) ≡ Some ((pos 1 ∷ [], ([], Running)) ∷ [])
row_to_itself_buffered = refl

-- a buffered send that nobody receives is left over
pub row_leftover : option_map outcome (fold (start (script 1 (send (n 1) (n 0) (n 0) ∷ [])) Buffered) (Local 0 ∷ Wake 0 ∷ [])) ≡ Some (Some (o.Leftovers (issued_by 0 (call_id 0 0) ∷ [])))
row_leftover = refl

pub row_empty : outcome (start (script 1 []) Rendezvous) ≡ Some o.Done
row_empty = refl

-- ---- worlds that no script of this grammar reaches

abbrev sent : ℕ → ℕ → ℕ → Call
sent to tag value = record { statement = 0; kind = Send (record { to = to; tag = tag; value = pos value; synchronous = false; blocks = true; buffered = false }) }

abbrev awaited : ℕ → ℕ → Call
awaited from tag = record { statement = 0; kind = Recv (record { from = Some from; tag = Some tag; cell = 0; status = None; blocks = true }) }

abbrev rank_that : Activity → RankWorld
rank_that activity = record { rest = []; vars = pos 0 ∷ []; handles = []; out = []; activity = activity }

-- two sends of one tag, and one of another between them
abbrev three_sends : World
three_sends = record {
  ranks = rank_that Running ∷ rank_that Blocked ∷ [];
  board = record {
    mode = Rendezvous;
    calls = (sent 1 1 10 ∷ sent 1 2 20 ∷ sent 1 1 30 ∷ []) ∷ (awaited 0 1 ∷ awaited 0 1 ∷ awaited 0 2 ∷ []) ∷ [];
    sets = [];
  };
}

-- a second send doesn't overtake the first of its tag, but passes one of another tag
pub row_overtaking : eligible three_sends.board (call_id 0 2) (call_id 1 0) ≡ false
row_overtaking = refl

pub row_other_tag : eligible three_sends.board (call_id 0 1) (call_id 1 2) ≡ true
row_other_tag = refl

-- of two receives posted for one message, the earlier one gets it
pub row_first_posted : eligible three_sends.board (call_id 0 0) (call_id 1 0) ≡ true
row_first_posted = refl

pub row_later_posted : eligible three_sends.board (call_id 0 0) (call_id 1 1) ≡ false
row_later_posted = refl

-- once the first pair is formed, the second send goes to the second receive
pub row_second_pair : option_map (λ w. eligible w.board (call_id 0 2) (call_id 1 1)) (next three_sends (Match (call_id 0 0) (call_id 1 0))) ≡ Some true
row_second_pair = refl

pub row_three_pending : pending three_sends.board 0 1 ≡ 0 ∷ 1 ∷ 2 ∷ []
row_three_pending = refl

pub row_three_posted : posted three_sends.board 1 ≡ 0 ∷ 1 ∷ 2 ∷ []
row_three_posted = refl

-- a message that passes another leaves the queues of the others in order
pub row_pending_after : option_map (λ w. pending w.board 0 1) (next three_sends (Match (call_id 0 1) (call_id 1 2))) ≡ Some (0 ∷ 2 ∷ [])
row_pending_after = refl

pub row_posted_after : option_map (λ w. posted w.board 1) (next three_sends (Match (call_id 0 1) (call_id 1 2))) ≡ Some (0 ∷ 1 ∷ [])
row_posted_after = refl

-- a paired call is never paired again
pub row_no_second_match : fold three_sends (Match (call_id 0 0) (call_id 1 0) ∷ Match (call_id 0 0) (call_id 1 1) ∷ []) ≡ None
row_no_second_match = refl

-- a receive of another source gets nothing
pub row_other_source : eligible (record { mode = Rendezvous; calls = (sent 1 1 10 ∷ []) ∷ (awaited 1 1 ∷ []) ∷ []; sets = [] }) (call_id 0 0) (call_id 1 0) ≡ false
row_other_source = refl

-- ---- trails

abbrev t0 : Trail
t0 = opening one_message Rendezvous

abbrev t1 : Trail
t1 = taken_back (applied (applied t0 (Local 0)) (Local 1))

-- the undone step, taken again, keeps what is after it; another drops it
pub row_kept : (taken_back (applied (applied t0 (Local 0)) (Local 1))).steps ≡ Local 0 ∷ Local 1 ∷ []
row_kept = refl

pub row_again : applied (taken_back t1) (Local 0) ≡ t1
row_again = refl

pub row_anew : (applied (taken_back t1) (Local 1)).steps ≡ Local 1 ∷ []
row_anew = refl

pub row_back : world_of (taken_back (applied t0 (Local 0))) ≡ Some (start one_message Rendezvous)
row_back = refl

-- taken again, it is the trail before the undo; from the start one step after the other
pub row_redone : redone t1 ≡ applied (applied t0 (Local 0)) (Local 1)
row_redone = refl

pub row_redone_from_the_start : redone (redone (gone_back t1 0)) ≡ applied (applied t0 (Local 0)) (Local 1)
row_redone_from_the_start = refl

-- going back to where one stands is no change, and going back from the end is an undo of each
pub row_gone_nowhere : gone_back t1 1 ≡ t1
row_gone_nowhere = refl

pub row_gone_back : gone_back (redone t1) 0 ≡ taken_back t1
row_gone_back = refl

-- what is undone can be forgotten, and put back
pub row_forgotten : (forgotten t1).steps ≡ Local 0 ∷ []
row_forgotten = refl

pub row_forgotten_at_the_end : forgotten (redone t1) ≡ redone t1
row_forgotten_at_the_end = refl

pub row_put_back : with_steps (forgotten t1) (Local 0 ∷ Local 1 ∷ []) ≡ t1
row_put_back = refl

pub row_put_others : world_of (redone (with_steps t1 (Local 0 ∷ Local 0 ∷ []))) ≡ fold (start one_message Rendezvous) (Local 0 ∷ Local 0 ∷ [])
row_put_others = refl
