-- The state of a run, and what is looked up in it. It has no queue and no buffer, nor does a call tell its pair: these are read off the
-- calls and the match sets. A send alone tells more: whether it was buffered as it was issued.
use Rattle.std.specs.Prelude.{ℕ, ◌-◌, ℤ, pos, Bool, true, false, ◌&&◌, ◌||◌, not, ◌==◌, nat_lt, if◌then◌else◌, List, [], ◌∷◌, length, replicate, slice_get, Option, Some, None, option_and_then, is_some, is_none, refl}
use Rattle.std.specs.Option.{option_map}
use Rattle.std.specs.List.{filter, list_any, range_with_len}
use Rattle.std.specs.Coded.{Coded, code_by, coded×, coded_ℕ, coded_ℤ, coded_list, coded_option}
use Rattle.mpd_model.specs.declared.step.CallId.{CallId}
use Rattle.mpd_model.specs.declared.call.Call.{Call}
use Rattle.mpd_model.specs.declared.call.CallKind.{CallKind}
use Rattle.mpd_model.specs.declared.call.CallKind.TheVariants.{Send, Recv, Wait, Waitany, Barrier}
use Rattle.mpd_model.specs.declared.call.Message.{Message}
use Rattle.mpd_model.specs.declared.call.Mode.{Mode}
use Rattle.mpd_model.specs.declared.call.Mode.TheVariants.{Slots}
use Rattle.mpd_model.specs.declared.call.Activity.{Activity}
use Rattle.mpd_model.specs.declared.call.Activity.TheVariants.{Running}
use Rattle.mpd_model.specs.declared.call.MatchSet.{MatchSet}
use Rattle.mpd_model.specs.declared.call.MatchSet.TheVariants.{Pair, Woke}
use Rattle.mpd_model.specs.declared.call.MatchSet.TheVariants as set
use Rattle.mpd_model.specs.contracts.call.Mode as mode_row
use Rattle.mpd_model.specs.contracts.call.Call as call_row
use Rattle.mpd_model.specs.contracts.call.Activity as activity_row
use Rattle.mpd_model.specs.contracts.call.MatchSet as set_row
use Rattle.mpd_model.specs.script.Declaration.{variables_in, handles_in}
use Rattle.mpd_model.specs.script.Tree.{Tree, numbered}
use Rattle.mpd_model.specs.script.TreeCode.{coded_tree}
use Rattle.mpd_model.specs.script.Program.{Program}

-- what one rank is at, and what it holds
pub record RankWorld : Type 0 where
  -- the statements that are still to be run, each with its number in text order
  pub rest : List (ℕ × Tree)
  pub vars : List ℤ
  -- the call that each handle has, if any
  pub handles : List (Option ℕ)
  pub out : List ℤ
  pub activity : Activity

-- where calls meet: the calls of each rank, and what was formed of them
pub record Board : Type 0 where
  pub mode : Mode
  pub calls : List (List Call)
  -- in the order formed
  pub sets : List MatchSet

pub record World : Type 0 where
  pub ranks : List RankWorld
  pub board : Board

-- every rank has the whole body before it, and no call was issued
abbrev pub start_rank : Program → RankWorld
start_rank s = record {
  rest = numbered 0 s.body;
  vars = replicate (variables_in s.decls) (pos 0);
  handles = replicate (handles_in s.decls) None;
  out = [];
  activity = Running;
}

abbrev pub start_board : ℕ → Mode → Board
start_board n mode = record { mode = mode; calls = replicate n []; sets = [] }

abbrev pub start : Program → Mode → World
start s mode = record { ranks = replicate s.ranks (start_rank s); board = start_board s.ranks mode }

-- ---- calls

abbrev pub call_id : ℕ → ℕ → CallId
call_id p i = record { rank = p; index = i }

abbrev pub id_eq : CallId → CallId → Bool
id_eq a b = (a.rank == b.rank) && (a.index == b.index)

-- the calls of a rank, none where there is no such rank
abbrev pub listed_calls : Option (List Call) → List Call
listed_calls None = []
listed_calls (Some calls) = calls

abbrev pub calls_of : Board → ℕ → List Call
calls_of b p = listed_calls (slice_get b.calls p)

abbrev pub call_at : Board → CallId → Option Call
call_at b c = slice_get (calls_of b c.rank) c.index

abbrev pub kind_of : Option Call → Option CallKind
kind_of None = None
kind_of (Some c) = Some c.kind

abbrev pub kind_at : Board → CallId → Option CallKind
kind_at b c = kind_of (call_at b c)

-- the numbers of all ranks, and of a rank's calls
abbrev pub rank_numbers : Board → List ℕ
rank_numbers b = range_with_len 0 (length b.calls)

abbrev pub call_numbers : Board → ℕ → List ℕ
call_numbers b p = range_with_len 0 (length (calls_of b p))

-- the call that a pair has beside this one
abbrev pub partner : List MatchSet → CallId → Option CallId
partner [] c = None
partner (Pair s r ∷ sets) c = if id_eq s c then Some r else (if id_eq r c then Some s else partner sets c)
partner (Woke d ∷ sets) c = partner sets c
partner (set.Barrier ∷ sets) c = partner sets c

-- a send or a receive: what matching is about
abbrev pub is_message_kind : Option CallKind → Bool
is_message_kind (Some (Send s)) = true
is_message_kind (Some (Recv r)) = true
is_message_kind kind = false

-- a send or a receive that no pair names
abbrev pub is_free : Board → CallId → Bool
is_free b c = is_message_kind (kind_at b c) && is_none (partner b.sets c)

-- ---- matching (MPI 4.0, section 3.5)

-- any number, or this one
abbrev pub is_any_or : Option ℕ → ℕ → Bool
is_any_or None n = true
is_any_or (Some m) n = m == n

-- A send of rank p and a receive of rank q fit: the send goes to q, the receive's source is any or p, and its tag is any or the send's.
abbrev pub fitting : Option CallKind → Option CallKind → ℕ → ℕ → Bool
fitting (Some (Send s)) (Some (Recv r)) p q = (s.to == q) && (is_any_or r.from p && is_any_or r.tag s.tag)
fitting one other p q = false

abbrev pub fits : Board → CallId → CallId → Bool
fits b s r = fitting (kind_at b s) (kind_at b r) s.rank r.rank

abbrev pub sends_to : Option CallKind → ℕ → Bool
sends_to (Some (Send s)) q = s.to == q
sends_to kind q = false

abbrev pub receives : Option CallKind → Bool
receives (Some (Recv r)) = true
receives kind = false

abbrev pub is_pending : Board → ℕ → ℕ → ℕ → Bool
is_pending b p q i = sends_to (kind_at b (call_id p i)) q && is_free b (call_id p i)

abbrev pub is_posted : Board → ℕ → ℕ → Bool
is_posted b q j = receives (kind_at b (call_id q j)) && is_free b (call_id q j)

-- p's free sends to q, in the order of issue
abbrev pub pending : Board → ℕ → ℕ → List ℕ
pending b p q = filter (is_pending b p q) (call_numbers b p)

-- q's free receives, in the order of issue
abbrev pub posted : Board → ℕ → List ℕ
posted b q = filter (is_posted b q) (call_numbers b q)

-- Messages don't overtake, on either side: both are free and fit, no earlier free send of the sender to that receiver fits the
-- receive, and no earlier free receive of the receiver fits the send.
abbrev pub eligible : Board → CallId → CallId → Bool
eligible b s r =
    is_free b s && (is_free b r && (fits b s r
    && (not (list_any (λ i. nat_lt i s.index && fits b (call_id s.rank i) r) (pending b s.rank r.rank))
    && not (list_any (λ i. nat_lt i r.index && fits b s (call_id r.rank i)) (posted b r.rank)))))

-- ---- messages and completion (MPI 4.0, sections 3.4, 3.7.3 and 6.3)

abbrev pub message_of : CallId → Option CallKind → Option Message
message_of c (Some (Send s)) = Some (record { value = s.value; source = c.rank; tag = s.tag })
message_of c kind = None

-- the message that a receive was paired with
abbrev pub buffer : Board → CallId → Option Message
buffer b r = option_and_then (λ s. message_of s (kind_at b s)) (partner b.sets r)

-- a send that was buffered as it was issued
abbrev pub is_buffered : Option CallKind → Bool
is_buffered (Some (Send s)) = s.buffered
is_buffered kind = false

-- a send or a receive that is done: it is paired, or was buffered as it was issued
abbrev pub is_done : Board → CallId → Bool
is_done b c = is_some (partner b.sets c) || is_buffered (kind_at b c)

-- the call that a rank waits for which is blocked on a call of this kind: what a wait was issued for, or the call itself; a waitany is for
-- none of its requests rather than another
abbrev pub awaited_by : CallId → Option CallKind → Option CallId
awaited_by c (Some (Wait t)) = option_map (call_id c.rank) t.target
awaited_by c (Some (Waitany a)) = None
awaited_by c kind = Some c

abbrev pub awaited : Board → CallId → Option CallId
awaited b c = awaited_by c (kind_at b c)

abbrev pub is_barrier : Option CallKind → Bool
is_barrier (Some Barrier) = true
is_barrier kind = false

-- Where nothing is waited for, as by a wait for a handle without a request, a call is complete at once.
abbrev pub complete_by : Board → Option CallId → Bool
complete_by b None = true
complete_by b (Some c) = is_done b c

-- a call from which no wake lets its rank go on: a barrier, which a release ends, and a waitany for a request, which a wakeany ends
abbrev pub has_own_step : Option CallKind → Bool
has_own_step (Some (Waitany a)) = a.active
has_own_step kind = is_barrier kind

-- Such a call never is complete.
abbrev pub complete : Board → CallId → Bool
complete b c = not (has_own_step (kind_at b c)) && complete_by b (awaited b c)

-- a buffered send that no pair names: it holds a slot of its rank
abbrev pub holds_slot : Board → CallId → Bool
holds_slot b c = is_buffered (kind_at b c) && is_none (partner b.sets c)

-- how many slots of a rank are held
abbrev pub slots_used : Board → ℕ → ℕ
slots_used b p = length (filter (λ i. holds_slot b (call_id p i)) (call_numbers b p))

-- a mode whose buffers run out
abbrev pub is_limited : Mode → Bool
is_limited (Slots count) = true
is_limited mode = false

-- the last call that a rank has issued
abbrev pub last_call : Board → ℕ → CallId
last_call b p = call_id p (length (calls_of b p) - 1)

-- ---- how the logic stores a world

abbrev pub rank_code : Coded RankWorld
rank_code =
    code_by (List (ℕ × Tree) × (List ℤ × (List (Option ℕ) × (List ℤ × Activity))))
    (coded× (coded_list (coded× coded_ℕ coded_tree)) (coded× (coded_list coded_ℤ) (coded× (coded_list (coded_option coded_ℕ)) (coded× (coded_list coded_ℤ) activity_row.the_row.coded))))
    (λ r. (r.rest, (r.vars, (r.handles, (r.out, r.activity)))))
    (λ q. record { rest = q.0; vars = q.1.0; handles = q.1.1.0; out = q.1.1.1.0; activity = q.1.1.1.1 }) (λ _. refl)

abbrev pub board_code : Coded Board
board_code =
    code_by (Mode × (List (List Call) × List MatchSet)) (coded× mode_row.the_row.coded (coded× (coded_list (coded_list call_row.the_row.coded)) (coded_list set_row.the_row.coded)))
    (λ b. (b.mode, (b.calls, b.sets))) (λ q. record { mode = q.0; calls = q.1.0; sets = q.1.1 }) (λ _. refl)

abbrev pub world_code : Coded World
world_code = code_by (List RankWorld × Board) (coded× (coded_list rank_code) board_code) (λ w. (w.ranks, w.board)) (λ q. record { ranks = q.0; board = q.1 }) (λ _. refl)
