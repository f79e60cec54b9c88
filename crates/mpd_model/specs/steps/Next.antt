-- What a step makes of a world, and where no step is.
use Rattle.std.specs.Prelude.{ℕ, ◌+◌, ◌<◌, ℤ, pos, negsuc, Bool, true, false, ◌&&◌, not, if◌then◌else◌, List, [], ◌∷◌, ◌++◌, length, map, nat_lt, slice_get, slice_set, slice_index_or, take, drop, Option, Some, None, option_and_then, is_some, Result, Ok, Err}
use Rattle.std.specs.Option.{option_map}
use Rattle.std.specs.List.{filter, flat_map, list_all, list_any, range_with_len}
use Rattle.mpd_model.specs.declared.limits.TheConstants.{TAGS}
use Rattle.mpd_model.specs.declared.step.CallId.{CallId}
use Rattle.mpd_model.specs.declared.step.Step.{Step}
use Rattle.mpd_model.specs.declared.step.Step.TheVariants.{Local, Match, Wake, WakeAny, Release}
use Rattle.mpd_model.specs.declared.call.CallKind.{CallKind}
use Rattle.mpd_model.specs.declared.call.CallKind.TheVariants.{Send, Recv, Wait, Waitany, Barrier}
use Rattle.mpd_model.specs.declared.call.Call.{Call}
use Rattle.mpd_model.specs.declared.call.Mode.{Mode}
use Rattle.mpd_model.specs.declared.call.Mode.TheVariants.{Rendezvous, Buffered, Slots}
use Rattle.mpd_model.specs.declared.call.Issue.{Issue}
use Rattle.mpd_model.specs.declared.call.StatusCells.{StatusCells}
use Rattle.mpd_model.specs.declared.call.MatchSet.{MatchSet}
use Rattle.mpd_model.specs.declared.call.Trap.{Trap}
use Rattle.mpd_model.specs.declared.call.Trap.TheVariants.{BadRank, BadTag, Assertion}
use Rattle.mpd_model.specs.declared.call.Activity.{Activity}
use Rattle.mpd_model.specs.declared.call.Activity.TheVariants.{Running, Blocked, Trapped}
use Rattle.mpd_model.specs.declared.call.MatchSet.TheVariants.{Pair, Woke}
use Rattle.mpd_model.specs.declared.call.MatchSet.TheVariants as set
use Rattle.mpd_model.specs.declared.place.Place.{Place}
use Rattle.mpd_model.specs.script.Term.{Term, Value, Env, and_then, is_zero, checked, value_of, target_cell, Target}
use Rattle.mpd_model.specs.declared.stmt.AssignStmt.{AssignStmt}
use Rattle.mpd_model.specs.declared.stmt.IsendStmt.{IsendStmt}
use Rattle.mpd_model.specs.declared.stmt.IrecvStmt.{IrecvStmt}
use Rattle.mpd_model.specs.declared.stmt.RecvStmt.{RecvStmt}
use Rattle.mpd_model.specs.declared.stmt.SendStmt.{SendStmt}
use Rattle.mpd_model.specs.declared.stmt.Simple.{Simple}
use Rattle.mpd_model.specs.declared.stmt.StatusStmt.{StatusStmt}
use Rattle.mpd_model.specs.declared.stmt.WaitanyStmt.{WaitanyStmt}
use Rattle.mpd_model.specs.declared.stmt.Simple.TheVariants as st
use Rattle.mpd_model.specs.script.Tree.{Tree, simple, branch, repeat, Block, trees, statements_in, numbered}
use Rattle.mpd_model.specs.declared.call.Message.{Message}
use Rattle.mpd_model.specs.steps.World.{RankWorld, World, Board, call_id, calls_of, kind_at, rank_numbers, call_numbers, eligible, buffer, awaited, is_barrier, complete, slots_used, last_call}

-- ---- local steps: the next statement of one rank

-- A trap changes what the rank is doing, and nothing else.
abbrev pub trapped : RankWorld → Trap → RankWorld
trapped r t = record r { activity = Trapped t }

-- the number of a rank, as a destination or a source, and a tag
abbrev pub rank_value : Term → Env → Result ℕ Trap
rank_value e env = checked (value_of e env) env.size BadRank

abbrev pub tag_value : Term → Env → Result ℕ Trap
tag_value e env = checked (value_of e env) TAGS BadTag

-- what a send issues, given whether it is synchronous and whether its rank waits for it: the value comes first, then the
-- destination, then the tag
abbrev pub send_kind : Bool → Bool → SendStmt → Env → Result CallKind Trap
send_kind synchronous blocks s env =
    and_then (value_of s.value env) (λ v.
    and_then (rank_value s.to env) (λ q.
    and_then (tag_value s.tag env) (λ t. Ok (Send (record { to = q; tag = t; value = v; synchronous = synchronous; blocks = blocks; buffered = false })))))

-- the source and the tag of a receive, where they aren't any
abbrev pub source_value : Option Term → Env → Result (Option ℕ) Trap
source_value None env = Ok None
source_value (Some e) env = and_then (rank_value e env) (λ q. Ok (Some q))

abbrev pub any_tag_value : Option Term → Env → Result (Option ℕ) Trap
any_tag_value None env = Ok None
any_tag_value (Some e) env = and_then (tag_value e env) (λ t. Ok (Some t))

-- the cells of a status: the index of the source's comes first
abbrev pub status_cells : Option StatusStmt → Env → Result (Option StatusCells) Trap
status_cells None env = Ok None
status_cells (Some s) env = and_then (target_cell s.source env) (λ a. and_then (target_cell s.tag env) (λ b. Ok (Some (record { source = a; tag = b }))))

-- what a receive issues: the index of its target comes first, then the source, then the tag, then the indexes of a status
abbrev pub recv_kind : Bool → RecvStmt → Env → Result CallKind Trap
recv_kind blocks s env =
    and_then (target_cell s.into env) (λ c.
    and_then (source_value s.from env) (λ q.
    and_then (any_tag_value s.tag env) (λ t.
    and_then (status_cells s.status env) (λ u. Ok (Recv (record { from = q; tag = t; cell = c; status = u; blocks = blocks }))))))

-- a call that its rank waits for
abbrev pub awaiting : Result CallKind Trap → Result Issue Trap
awaiting k = and_then k (λ kind. Ok (record { kind = kind; handle = None }))

-- A call that its rank doesn't wait for: the index of its handle comes first.
abbrev pub held_by : Target → Env → Result CallKind Trap → Result Issue Trap
held_by request env k = and_then (target_cell request env) (λ h. and_then k (λ kind. Ok (record { kind = kind; handle = Some h })))

-- a wait for what a handle holds now
abbrev pub wait_kind : Target → Env → Result CallKind Trap
wait_kind request env = and_then (target_cell request env) (λ h. Ok (Wait (record { handle = h; target = slice_index_or env.handles h None })))

-- the handles of a declaration
abbrev pub handles_at : Place → Env → List (Option ℕ)
handles_at requests env = take requests.cells (drop requests.first env.handles)

-- a waitany for all handles of a declaration, of which some may hold a call now: the index of the place that it writes is evaluated
abbrev pub waitany_kind : WaitanyStmt → Env → Result CallKind Trap
waitany_kind s env =
    and_then (target_cell s.into env) (λ c. Ok (Waitany (record { first = s.requests.first; count = s.requests.cells; cell = c; active = list_any is_some (handles_at s.requests env) })))

-- what each statement issues
abbrev pub send_issue : SendStmt → Env → Result Issue Trap
send_issue s env = awaiting (send_kind false true s env)

abbrev pub ssend_issue : SendStmt → Env → Result Issue Trap
ssend_issue s env = awaiting (send_kind true true s env)

abbrev pub recv_issue : RecvStmt → Env → Result Issue Trap
recv_issue s env = awaiting (recv_kind true s env)

abbrev pub isend_issue : IsendStmt → Env → Result Issue Trap
isend_issue s env = held_by s.request env (send_kind false false s.send env)

abbrev pub issend_issue : IsendStmt → Env → Result Issue Trap
issend_issue s env = held_by s.request env (send_kind true false s.send env)

abbrev pub irecv_issue : IrecvStmt → Env → Result Issue Trap
irecv_issue s env = held_by s.request env (recv_kind false s.recv env)

abbrev pub wait_issue : Target → Env → Result Issue Trap
wait_issue t env = awaiting (wait_kind t env)

abbrev pub waitany_issue : WaitanyStmt → Env → Result Issue Trap
waitany_issue s env = awaiting (waitany_kind s env)

abbrev pub barrier_issue : Result Issue Trap
barrier_issue = awaiting (Ok Barrier)

-- the cell that an assignment writes, and its new value: the index of its target comes first, then the expression
abbrev pub assignment : AssignStmt → Env → Result (ℕ × ℤ) Trap
assignment s env = and_then (target_cell s.into env) (λ c. and_then (value_of s.value env) (λ v. Ok (c, v)))

-- what a local step leaves: its rank, and the call that it issued, if it did
pub record Ran : Type 0 where
  pub rank : RankWorld
  pub call : Option Call

abbrev pub alone : RankWorld → Ran
alone r = record { rank = r; call = None }

abbrev pub printed : RankWorld → List (ℕ × Tree) → Value → RankWorld
printed r ts (Ok v) = record r { rest = ts; out = r.out ++ v ∷ [] }
printed r ts (Err t) = trapped r t

-- whether a rank waits for a call of this kind
abbrev pub blocks : CallKind → Bool
blocks (Send s) = s.blocks
blocks (Recv r) = r.blocks
blocks (Wait t) = true
blocks (Waitany a) = true
blocks Barrier = true

abbrev pub activity_after : CallKind → Activity
activity_after kind = if blocks kind then Blocked else Running

-- handles of which one, if one is named, gets a call or none
abbrev pub requested : Option ℕ → Option ℕ → List (Option ℕ) → List (Option ℕ)
requested None call handles = handles
requested (Some h) call handles = slice_set handles h call

-- The call gets the next number of its rank.
abbrev pub issued : RankWorld → List (ℕ × Tree) → ℕ → ℕ → Result Issue Trap → Ran
issued r ts number count (Ok a) = record {
  rank = record r { rest = ts; handles = requested a.handle (Some count) r.handles; activity = activity_after a.kind };
  call = Some (record { statement = number; kind = a.kind });
}
issued r ts number count (Err t) = alone (trapped r t)

abbrev pub assigned : RankWorld → List (ℕ × Tree) → Result (ℕ × ℤ) Trap → RankWorld
assigned r ts (Ok w) = record r { rest = ts; vars = slice_set r.vars w.0 w.1 }
assigned r ts (Err t) = trapped r t

abbrev pub asserted : RankWorld → List (ℕ × Tree) → Value → RankWorld
asserted r ts (Ok v) = if is_zero v then trapped r Assertion else record r { rest = ts }
asserted r ts (Err t) = trapped r t

-- the block that is chosen, its statements numbered after the `if`
abbrev pub taken : ℕ → ℤ → Block → Block → List (ℕ × Tree)
taken number v first second = if is_zero v then numbered (number + 1 + statements_in first) (trees second) else numbered (number + 1) (trees first)

abbrev pub chosen : RankWorld → List (ℕ × Tree) → ℕ → Value → Block → Block → RankWorld
chosen r ts number (Ok v) first second = record r { rest = taken number v first second ++ ts }
chosen r ts number (Err t) first second = trapped r t

-- A `while` whose condition holds puts its body before itself.
abbrev pub repeated : RankWorld → List (ℕ × Tree) → ℕ → Value → Term → Block → RankWorld
repeated r ts number (Ok v) c body = record r { rest = if is_zero v then ts else numbered (number + 1) (trees body) ++ (number, repeat c body) ∷ ts }
repeated r ts number (Err t) c body = trapped r t

-- what statements are evaluated in on rank p of n
abbrev pub env_of : ℕ → ℕ → RankWorld → Env
env_of p n r = record { vars = r.vars; handles = r.handles; rank = p; size = n }

-- what a statement that holds no other makes of a rank with so many calls, given its number and what is left after it
abbrev pub ran_simple : Env → RankWorld → ℕ → ℕ → Simple → List (ℕ × Tree) → Ran
ran_simple env r count number (st.Print e) ts = alone (printed r ts (value_of e env))
ran_simple env r count number (st.Assign s) ts = alone (assigned r ts (assignment s env))
ran_simple env r count number (st.Assert e) ts = alone (asserted r ts (value_of e env))
ran_simple env r count number (st.Send s) ts = issued r ts number count (send_issue s env)
ran_simple env r count number (st.Ssend s) ts = issued r ts number count (ssend_issue s env)
ran_simple env r count number (st.Recv s) ts = issued r ts number count (recv_issue s env)
ran_simple env r count number (st.Isend s) ts = issued r ts number count (isend_issue s env)
ran_simple env r count number (st.Issend s) ts = issued r ts number count (issend_issue s env)
ran_simple env r count number (st.Irecv s) ts = issued r ts number count (irecv_issue s env)
ran_simple env r count number (st.Wait t) ts = issued r ts number count (wait_issue t env)
ran_simple env r count number (st.Waitany s) ts = issued r ts number count (waitany_issue s env)
ran_simple env r count number st.Barrier ts = issued r ts number count barrier_issue

-- what any statement makes of it
abbrev pub ran : Env → RankWorld → ℕ → ℕ → Tree → List (ℕ × Tree) → Ran
ran env r count number (simple s) ts = ran_simple env r count number s ts
ran env r count number (branch c first second) ts = alone (chosen r ts number (value_of c env) first second)
ran env r count number (repeat c body) ts = alone (repeated r ts number (value_of c env) c body)

abbrev pub local_of : ℕ → ℕ → ℕ → RankWorld → Activity → List (ℕ × Tree) → Option Ran
local_of p n count r Running [] = None
local_of p n count r Running (t ∷ ts) = Some (ran (env_of p n r) r count t.0 t.1 ts)
local_of p n count r Blocked ts = None
local_of p n count r (Trapped t) ts = None

-- the local step of rank p of n, which has issued so many calls
abbrev pub local : ℕ → ℕ → ℕ → RankWorld → Option Ran
local p n count r = local_of p n count r r.activity r.rest

abbrev pub local_at : World → ℕ → Option Ran
local_at w p = option_and_then (local p (length w.ranks) (length (calls_of w.board p))) (slice_get w.ranks p)

-- a send goes to one of so many ranks
abbrev pub HasReceiver : ℕ → CallKind → Type 0
HasReceiver ranks (Send s) = s.to < ranks
HasReceiver ranks kind = Unit {0}

-- whether a mode has a buffer for a standard send of a rank that holds so many slots
abbrev pub buffers_one : Mode → ℕ → Bool
buffers_one Rendezvous held = false
buffers_one Buffered held = true
buffers_one (Slots count) held = nat_lt held count

-- a call more of a rank
abbrev pub with_call : Board → ℕ → Call → Board
with_call b p c = record b { calls = slice_set b.calls p (calls_of b p ++ c ∷ []) }

-- whether a standard send of rank p is buffered, were it issued now (MPI 4.0, section 3.4)
abbrev pub has_buffer : Board → ℕ → Bool
has_buffer b p = buffers_one b.mode (slots_used b p)

-- A standard send gets the buffer that there is, and keeps it; a synchronous one gets none.
abbrev pub buffered_by : Bool → CallKind → CallKind
buffered_by room (Send s) = Send (record s { buffered = room && not s.synchronous })
buffered_by room kind = kind

-- a call as it joins the board
abbrev pub entered : Board → ℕ → Call → Call
entered b p c = record c { kind = buffered_by (has_buffer b p) c.kind }

abbrev pub with_issued : Board → ℕ → Option Call → Board
with_issued b p None = b
with_issued b p (Some c) = with_call b p (entered b p c)

-- a world after the local step of a rank
abbrev pub stepped : World → ℕ → Ran → World
stepped w p done = record { ranks = slice_set w.ranks p done.rank; board = with_issued w.board p done.call }

-- ---- wakes

abbrev pub is_blocked : Activity → Bool
is_blocked Running = false
is_blocked Blocked = true
is_blocked (Trapped t) = false

abbrev pub waits : Option RankWorld → Bool
waits None = false
waits (Some r) = is_blocked r.activity

-- a rank that is blocked on a complete call, which a barrier never is
abbrev pub can_wake : World → ℕ → Bool
can_wake w p = waits (slice_get w.ranks p) && complete w.board (last_call w.board p)

-- the cells of a status, and what is written there
abbrev pub status_writes : Option StatusCells → Message → List (ℕ × ℤ)
status_writes None m = []
status_writes (Some c) m = (c.source, pos m.source) ∷ (c.tag, pos m.tag) ∷ []

-- the cells that a receive writes as its rank goes on, in order, each with its new value: the value, then the source, then the tag
abbrev pub writes_of : Option CallKind → Option Message → List (ℕ × ℤ)
writes_of (Some (Recv r)) (Some m) = (r.cell, m.value) ∷ status_writes r.status m
writes_of kind m = []

abbrev pub writes_by : Board → Option CallId → List (ℕ × ℤ)
writes_by b None = []
writes_by b (Some c) = writes_of (kind_at b c) (buffer b c)

abbrev pub write_cells : List (ℕ × ℤ) → List ℤ → List ℤ
write_cells [] vars = vars
write_cells (w ∷ ws) vars = write_cells ws (slice_set vars w.0 w.1)

-- the handle that a wait clears
abbrev pub cleared_by : Option CallKind → Option ℕ
cleared_by (Some (Wait t)) = Some t.handle
cleared_by kind = None

-- what the wake of a waitany writes, of which no handle held a request as it was issued: -1 in the place of an index
abbrev pub own_writes : Option CallKind → List (ℕ × ℤ)
own_writes (Some (Waitany a)) = (a.cell, negsuc 0) ∷ []
own_writes kind = []

abbrev pub woken_rank : List (ℕ × ℤ) → Option ℕ → RankWorld → RankWorld
woken_rank writes handle r = record r { vars = write_cells writes r.vars; handles = requested handle None r.handles; activity = Running }

-- what the wake of a rank writes, and the handle that it clears
abbrev pub wake_writes : Board → ℕ → List (ℕ × ℤ)
wake_writes b p = writes_by b (awaited b (last_call b p)) ++ own_writes (kind_at b (last_call b p))

abbrev pub wake_clears : Board → ℕ → Option ℕ
wake_clears b p = cleared_by (kind_at b (last_call b p))

-- the ranks with one changed
abbrev pub put_at : List RankWorld → ℕ → Option RankWorld → (RankWorld → RankWorld) → List RankWorld
put_at ranks p None f = ranks
put_at ranks p (Some r) f = slice_set ranks p (f r)

abbrev pub update_at : List RankWorld → ℕ → (RankWorld → RankWorld) → List RankWorld
update_at ranks p f = put_at ranks p (slice_get ranks p) f

-- what is formed joins the match sets
abbrev pub with_set : Board → MatchSet → Board
with_set b m = record b { sets = b.sets ++ m ∷ [] }

-- a rank goes on from its last call: it writes these cells, and loses what that handle holds
abbrev pub woken_by : World → ℕ → List (ℕ × ℤ) → Option ℕ → World
woken_by w p writes handle = record { ranks = update_at w.ranks p (woken_rank writes handle); board = with_set w.board (Woke (last_call w.board p)) }

abbrev pub woken : World → ℕ → World
woken w p = woken_by w p (wake_writes w.board p) (wake_clears w.board p)

-- ---- one of several requests (MPI 4.0, section 3.7.5)

-- how many handles a waitany has, the one of an index, and where that index goes
abbrev pub requests_of : Option CallKind → ℕ
requests_of (Some (Waitany a)) = a.count
requests_of kind = 0

abbrev pub request_handle : Option CallKind → ℕ → Option ℕ
request_handle (Some (Waitany a)) i = if nat_lt i a.count then Some (a.first + i) else None
request_handle kind i = None

abbrev pub index_writes : Option CallKind → ℕ → List (ℕ × ℤ)
index_writes (Some (Waitany a)) i = (a.cell, pos i) ∷ []
index_writes kind i = []

-- the call that a handle of a rank holds
abbrev pub held_in : ℕ → Option RankWorld → Option ℕ → Option CallId
held_in p (Some r) (Some h) = option_map (call_id p) (slice_index_or r.handles h None)
held_in p r h = None

-- the request of that index, of the waitany that a rank is blocked on
abbrev pub any_handle : World → ℕ → ℕ → Option ℕ
any_handle w p i = request_handle (kind_at w.board (last_call w.board p)) i

abbrev pub any_call : World → ℕ → ℕ → Option CallId
any_call w p i = held_in p (slice_get w.ranks p) (any_handle w p i)

abbrev pub is_complete_some : Board → Option CallId → Bool
is_complete_some b None = false
is_complete_some b (Some c) = complete b c

-- a rank that is blocked on a waitany, of which the request of that index is complete
abbrev pub can_wake_any : World → ℕ → ℕ → Bool
can_wake_any w p i = waits (slice_get w.ranks p) && is_complete_some w.board (any_call w p i)

-- what the rank writes as it goes on by that request: what a wait for it writes, and the index after that
abbrev pub any_writes : World → ℕ → ℕ → List (ℕ × ℤ)
any_writes w p i = writes_by w.board (any_call w p i) ++ index_writes (kind_at w.board (last_call w.board p)) i

-- It goes on as from a wait for that request, and is told the index.
abbrev pub woken_any : World → ℕ → ℕ → World
woken_any w p i = woken_by w p (any_writes w p i) (any_handle w p i)

-- ---- releases (MPI 4.0, section 6.3)

-- a rank that is blocked on a barrier
abbrev pub is_at_barrier : World → ℕ → Bool
is_at_barrier w p = waits (slice_get w.ranks p) && is_barrier (kind_at w.board (last_call w.board p))

-- Every rank is, and there is one: a rank that runs, has ended or is trapped keeps all others waiting.
abbrev pub can_release : World → Bool
can_release w = nat_lt 0 (length w.ranks) && list_all (is_at_barrier w) (range_with_len 0 (length w.ranks))

abbrev pub going_on : RankWorld → RankWorld
going_on r = record r { activity = Running }

abbrev pub released : World → World
released w = record { ranks = map going_on w.ranks; board = with_set w.board set.Barrier }

-- ---- the step

abbrev pub next : World → Step → Option World
next w (Local p) = option_map (stepped w p) (local_at w p)
next w (Match s r) = if eligible w.board s r then Some (record w { board = with_set w.board (Pair s r) }) else None
next w (Wake p) = if can_wake w p then Some (woken w p) else None
next w (WakeAny p i) = if can_wake_any w p i then Some (woken_any w p i) else None
next w Release = if can_release w then Some (released w) else None

abbrev pub is_enabled : World → Step → Bool
is_enabled w a = is_some (next w a)

abbrev pub fold : World → List Step → Option World
fold w [] = Some w
fold w (a ∷ steps) = option_and_then (λ v. fold v steps) (next w a)

-- ---- all steps that may be enabled: local, release, wake, wakeany, match; by rank, wakeany by index, and matches by receiver, receive, sender, send

abbrev pub matches_with : Board → CallId → List Step
matches_with b r = flat_map (λ p. map (λ i. Match (call_id p i) r) (call_numbers b p)) (rank_numbers b)

abbrev pub matches_of : Board → ℕ → List Step
matches_of b q = flat_map (λ j. matches_with b (call_id q j)) (call_numbers b q)

abbrev pub matches_in : Board → List Step
matches_in b = flat_map (matches_of b) (rank_numbers b)

abbrev pub any_wakes_of : Board → ℕ → List Step
any_wakes_of b p = map (WakeAny p) (range_with_len 0 (requests_of (kind_at b (last_call b p))))

abbrev pub any_wakes_in : Board → List Step
any_wakes_in b = flat_map (any_wakes_of b) (rank_numbers b)

abbrev pub steps_of : World → List Step
steps_of w = map Local (rank_numbers w.board) ++ (Release ∷ (map Wake (rank_numbers w.board) ++ (any_wakes_in w.board ++ matches_in w.board)))

abbrev pub enabled : World → List Step
enabled w = filter (is_enabled w) (steps_of w)
