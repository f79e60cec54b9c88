-- What definitions with a clause for all others say of each kind of call and of each step. A kind or a step that joins joins the lists
-- below, and each row then asks what is to be said of it.
use Rattle.std.specs.Prelude.{◌≡◌, ◌<◌, ℕ, ℤ, pos, negsuc, Bool, true, false, map, List, [], ◌∷◌, ◌++◌, Option, Some, None, codes, refl}
use Rattle.std.specs.Fmt.{digits}
use Rattle.mpd_model.specs.declared.call.Activity.{Activity}
use Rattle.mpd_model.specs.declared.call.Activity.TheVariants.{Running, Blocked}
use Rattle.mpd_model.specs.declared.call.CallKind.{CallKind}
use Rattle.mpd_model.specs.declared.call.CallKind.TheVariants.{Send, Recv, Wait, Waitany, Barrier}
use Rattle.mpd_model.specs.declared.call.Message.{Message}
use Rattle.mpd_model.specs.declared.call.Mode.TheVariants.{Rendezvous}
use Rattle.mpd_model.specs.declared.call.RecvCall.{RecvCall}
use Rattle.mpd_model.specs.declared.call.SendCall.{SendCall}
use Rattle.mpd_model.specs.declared.call.WaitanyCall.{WaitanyCall}
use Rattle.mpd_model.specs.declared.step.CallId.{CallId}
use Rattle.mpd_model.specs.declared.step.Step.{Step}
use Rattle.mpd_model.specs.declared.step.Step.TheVariants.{Local, Match, Wake, WakeAny, Release}
use Rattle.mpd_model.specs.script.Tree.{Tree}
use Rattle.mpd_model.specs.script.Program.{Program}
use Rattle.mpd_model.specs.steps.World.{Board, RankWorld, World, call_id, is_message_kind, fitting, sends_to, receives, message_of, is_buffered, awaited_by, is_barrier, has_own_step}
use Rattle.mpd_model.specs.steps.Next.{HasReceiver, blocks, buffered_by, writes_of, cleared_by, own_writes, requests_of, request_handle, index_writes}
use Rattle.mpd_model.specs.steps.Order.{same_envelope_as, is_covered_by, matches_first, waits_for}
use Rattle.mpd_model.specs.steps.Why.{why_by}
use Rattle.mpd_model.specs.runs.Breakpoints.{line_hits, match_hits, rank_hits}
use Rattle.mpd_model.specs.runs.Decisions.{is_local, is_release, is_wake, any_rank, is_of, names_source, takes_any, is_named_match, is_open_match}
use Rattle.mpd_model.specs.texts.Texts.{got_text}
use Rattle.mpd_model.specs.runs.Trail.{step_eq}
use Rattle.mpd_rows.specs.worlds.Statements.{barrier}

-- ---- kinds of calls: a send, a synchronous one, a receive from rank 1, one of any source, a wait for call 5, a waitany for handles 6 to 8, a barrier

abbrev sent : Bool → SendCall
sent buffered = record { to = 1; tag = 2; value = pos 3; synchronous = false; blocks = true; buffered = buffered }

abbrev synchronous : SendCall
synchronous = record { to = 1; tag = 2; value = pos 3; synchronous = true; blocks = false; buffered = false }

abbrev named : RecvCall
named = record { from = Some 1; tag = Some 2; cell = 0; status = None; blocks = false }

abbrev wild : RecvCall
wild = record { from = None; tag = None; cell = 4; status = None; blocks = true }

abbrev first_of_three : Bool → WaitanyCall
first_of_three active = record { first = 6; count = 3; cell = 2; active = active }

abbrev kinds : Bool → List CallKind
kinds buffered = Send (sent buffered) ∷ Send synchronous ∷ Recv named ∷ Recv wild ∷ Wait (record { handle = 6; target = Some 5 }) ∷ Waitany (first_of_three true) ∷ Barrier ∷ []

-- and where there is no call
abbrev calls : List (Option CallKind)
calls = map {B = Option CallKind} Some (kinds true) ++ None ∷ []

abbrev tests : (Option CallKind → Bool) → List Bool
tests test = map {B = Bool} test calls

abbrev three : Message
three = record { value = pos 3; source = 1; tag = 2 }

pub row_blocks : map {B = Bool} blocks (kinds true) ≡ true ∷ false ∷ false ∷ true ∷ true ∷ true ∷ true ∷ []
row_blocks = refl

pub row_is_matched : tests is_message_kind ≡ true ∷ true ∷ true ∷ true ∷ false ∷ false ∷ false ∷ false ∷ []
row_is_matched = refl

-- a send of rank 1 to itself
pub row_fits_a_send : tests (λ k. fitting (Some (Send (sent true))) k 1 1) ≡ false ∷ false ∷ true ∷ true ∷ false ∷ false ∷ false ∷ false ∷ []
row_fits_a_send = refl

pub row_fits_a_receive : tests (λ k. fitting k (Some (Recv named)) 1 1) ≡ true ∷ true ∷ false ∷ false ∷ false ∷ false ∷ false ∷ false ∷ []
row_fits_a_receive = refl

pub row_sends : tests (λ k. sends_to k 1) ≡ true ∷ true ∷ false ∷ false ∷ false ∷ false ∷ false ∷ false ∷ []
row_sends = refl

pub row_receives : tests receives ≡ false ∷ false ∷ true ∷ true ∷ false ∷ false ∷ false ∷ false ∷ []
row_receives = refl

pub row_message : map {B = Option Message} (message_of (call_id 1 0)) calls ≡ Some three ∷ Some three ∷ None ∷ None ∷ None ∷ None ∷ None ∷ None ∷ []
row_message = refl

pub row_is_buffered : tests is_buffered ≡ true ∷ false ∷ false ∷ false ∷ false ∷ false ∷ false ∷ false ∷ []
row_is_buffered = refl

-- of what joins a board, standard sends alone are buffered
pub row_buffer : map {B = CallKind} (buffered_by true) (kinds false) ≡ kinds true
row_buffer = refl

pub row_no_buffer : map {B = CallKind} (buffered_by false) (kinds false) ≡ kinds false
row_no_buffer = refl

pub row_awaits : map {B = Option CallId} (awaited_by (call_id 0 7)) calls
    ≡ Some (call_id 0 7) ∷ Some (call_id 0 7) ∷ Some (call_id 0 7) ∷ Some (call_id 0 7) ∷ Some (call_id 0 5) ∷ None ∷ Some (call_id 0 7) ∷ Some (call_id 0 7) ∷ []
row_awaits = refl

pub row_is_barrier : tests is_barrier ≡ false ∷ false ∷ false ∷ false ∷ false ∷ false ∷ true ∷ false ∷ []
row_is_barrier = refl

pub row_writes : map {B = List (ℕ × ℤ)} (λ k. writes_of k (Some three)) calls ≡ [] ∷ [] ∷ ((0, pos 3) ∷ []) ∷ ((4, pos 3) ∷ []) ∷ [] ∷ [] ∷ [] ∷ [] ∷ []
row_writes = refl

pub row_clears : map {B = Option ℕ} cleared_by calls ≡ None ∷ None ∷ None ∷ None ∷ Some 6 ∷ None ∷ None ∷ None ∷ []
row_clears = refl

-- a rank goes on by a step of its own from a barrier, and from a waitany for a request
pub row_own_step : tests has_own_step ≡ false ∷ false ∷ false ∷ false ∷ false ∷ true ∷ true ∷ false ∷ []
row_own_step = refl

pub row_no_own_step : has_own_step (Some (Waitany (first_of_three false))) ≡ false
row_no_own_step = refl

pub row_own_writes : map {B = List (ℕ × ℤ)} own_writes calls ≡ [] ∷ [] ∷ [] ∷ [] ∷ [] ∷ ((2, negsuc 0) ∷ []) ∷ [] ∷ [] ∷ []
row_own_writes = refl

pub row_requests : map {B = ℕ} requests_of calls ≡ 0 ∷ 0 ∷ 0 ∷ 0 ∷ 0 ∷ 3 ∷ 0 ∷ 0 ∷ []
row_requests = refl

pub row_request_handle : map {B = Option ℕ} (λ k. request_handle k 2) calls ≡ None ∷ None ∷ None ∷ None ∷ None ∷ Some 8 ∷ None ∷ None ∷ []
row_request_handle = refl

pub row_no_such_request : request_handle (Some (Waitany (first_of_three true))) 3 ≡ None
row_no_such_request = refl

pub row_index_writes : map {B = List (ℕ × ℤ)} (λ k. index_writes k 2) calls ≡ [] ∷ [] ∷ [] ∷ [] ∷ [] ∷ ((2, pos 2) ∷ []) ∷ [] ∷ [] ∷ []
row_index_writes = refl

-- what is asked of a call that joins the board of two ranks
pub row_receiver : map {B = Type 0} (HasReceiver 2) (kinds true) ≡ (1 < 2) ∷ (1 < 2) ∷ Unit {0} ∷ Unit {0} ∷ Unit {0} ∷ Unit {0} ∷ Unit {0} ∷ []
row_receiver = refl

pub row_same_envelope : tests (same_envelope_as (sent true)) ≡ true ∷ true ∷ false ∷ false ∷ false ∷ false ∷ false ∷ false ∷ []
row_same_envelope = refl

pub row_covered : tests (is_covered_by wild) ≡ false ∷ false ∷ true ∷ true ∷ false ∷ false ∷ false ∷ false ∷ []
row_covered = refl

-- what is matched before a send, and before a receive that names its source
pub row_before_a_send : tests (λ k. matches_first k (Some (Send (sent true)))) ≡ true ∷ true ∷ false ∷ false ∷ false ∷ false ∷ false ∷ false ∷ []
row_before_a_send = refl

pub row_before_a_receive : tests (λ k. matches_first k (Some (Recv named))) ≡ false ∷ false ∷ true ∷ true ∷ false ∷ false ∷ false ∷ false ∷ []
row_before_a_receive = refl

pub row_waits_for : tests (λ k. waits_for k 5) ≡ false ∷ false ∷ false ∷ false ∷ true ∷ false ∷ false ∷ false ∷ []
row_waits_for = refl

pub row_names_source : tests names_source ≡ false ∷ false ∷ true ∷ false ∷ false ∷ false ∷ false ∷ false ∷ []
row_names_source = refl

pub row_takes_any : tests takes_any ≡ false ∷ false ∷ false ∷ true ∷ false ∷ false ∷ false ∷ false ∷ []
row_takes_any = refl

-- call 0 of rank 0 is such a send, and call 0 of rank 1 a receive
abbrev meeting : RecvCall → Board
meeting recv = record { mode = Rendezvous; calls = (record { statement = 0; kind = Send (sent false) } ∷ []) ∷ (record { statement = 1; kind = Recv recv } ∷ []) ∷ []; sets = [] }

pub row_partners : map {B = List (CallId × Option CallId)} (why_by (meeting wild) (call_id 0 0)) calls ≡ ((call_id 1 0, None) ∷ []) ∷ ((call_id 1 0, None) ∷ []) ∷ [] ∷ [] ∷ [] ∷ [] ∷ [] ∷ [] ∷ []
row_partners = refl

-- and of the receive
pub row_partners_of_a_receive : map {B = List (CallId × Option CallId)} (why_by (meeting wild) (call_id 1 0)) calls
    ≡ [] ∷ [] ∷ ((call_id 0 0, None) ∷ []) ∷ ((call_id 0 0, None) ∷ []) ∷ [] ∷ [] ∷ [] ∷ [] ∷ []
row_partners_of_a_receive = refl

pub row_got : map {B = List ℕ} (λ k. got_text k (Some three)) (kinds true) ≡ [] ∷ [] ∷ codes " value 3" ∷ codes " value 3" ∷ [] ∷ [] ∷ [] ∷ []
unfolding digits
row_got = refl

-- ---- steps

abbrev steps : List Step
steps = Local 0 ∷ Match (call_id 0 0) (call_id 1 0) ∷ Wake 0 ∷ WakeAny 0 1 ∷ Release ∷ []

abbrev of_steps : (Step → Bool) → List Bool
of_steps test = map {B = Bool} test steps

pub row_is_local : of_steps is_local ≡ true ∷ false ∷ false ∷ false ∷ false ∷ []
row_is_local = refl

pub row_is_wake : of_steps is_wake ≡ false ∷ false ∷ true ∷ false ∷ false ∷ []
row_is_wake = refl

pub row_any_rank : map {B = Option ℕ} any_rank steps ≡ None ∷ None ∷ None ∷ Some 0 ∷ None ∷ []
row_any_rank = refl

-- of rank 0, of rank 1, and of none
pub row_is_of : map {B = List Bool} (λ p. of_steps (is_of p)) (Some 0 ∷ Some 1 ∷ None ∷ [])
    ≡ (false ∷ false ∷ false ∷ true ∷ false ∷ []) ∷ (false ∷ false ∷ false ∷ false ∷ false ∷ []) ∷ (false ∷ false ∷ false ∷ false ∷ false ∷ []) ∷ []
row_is_of = refl

pub row_is_release : of_steps is_release ≡ false ∷ false ∷ false ∷ false ∷ true ∷ []
row_is_release = refl

pub row_is_named_match : of_steps (is_named_match (meeting named)) ≡ false ∷ true ∷ false ∷ false ∷ false ∷ []
row_is_named_match = refl

pub row_is_no_named_match : of_steps (is_named_match (meeting wild)) ≡ false ∷ false ∷ false ∷ false ∷ false ∷ []
row_is_no_named_match = refl

pub row_is_open_match : of_steps (is_open_match (meeting wild)) ≡ false ∷ true ∷ false ∷ false ∷ false ∷ []
row_is_open_match = refl

pub row_is_no_open_match : of_steps (is_open_match (meeting named)) ≡ false ∷ false ∷ false ∷ false ∷ false ∷ []
row_is_no_open_match = refl

-- each step is itself alone
pub row_same_step : map {B = List Bool} (λ a. of_steps (step_eq a)) steps
    ≡ (true ∷ false ∷ false ∷ false ∷ false ∷ []) ∷ (false ∷ true ∷ false ∷ false ∷ false ∷ []) ∷ (false ∷ false ∷ true ∷ false ∷ false ∷ []) ∷ (false ∷ false ∷ false ∷ true ∷ false ∷ [])
    ∷ (false ∷ false ∷ false ∷ false ∷ true ∷ []) ∷ []
row_same_step = refl

-- a number of it that is another makes it another
pub row_other_step : map {B = Bool} (λ (s : Step × Step). step_eq s.0 s.1)
    ((Local 0, Local 1) ∷ (Match (call_id 0 0) (call_id 1 0), Match (call_id 0 1) (call_id 1 0)) ∷ (Match (call_id 0 0) (call_id 1 0), Match (call_id 0 0) (call_id 1 1)) ∷ (Wake 0, Wake 1)
    ∷ (WakeAny 0 1, WakeAny 1 1) ∷ (WakeAny 0 1, WakeAny 0 0) ∷ [])
    ≡ false ∷ false ∷ false ∷ false ∷ false ∷ false ∷ []
row_other_step = refl

-- ---- what a step hits: statement 0 stands on line 4, statement 1 on line 9

abbrev two_lines : Program
two_lines = record { version = 1; ranks = 2; decls = []; body = barrier ∷ barrier ∷ []; lines = 4 ∷ 9 ∷ [] }

-- rank 0 runs with statement 1 before it, rank 1 is blocked with statement 0 before it
abbrev before_it : ℕ → Tree → Activity → RankWorld
before_it number tree activity = record { rest = (number, tree) ∷ []; vars = []; handles = []; out = []; activity = activity }

abbrev behind_them : World
behind_them = record { ranks = before_it 1 barrier Running ∷ before_it 0 barrier Blocked ∷ []; board = meeting wild }

abbrev hit_by_line : ℕ → List Step → List Bool
hit_by_line line all = map {B = Bool} (λ a. line_hits two_lines line None None a behind_them) all

pub row_line : hit_by_line 9 steps ≡ true ∷ false ∷ true ∷ true ∷ true ∷ []
row_line = refl

pub row_line_of_a_blocked_rank : hit_by_line 4 steps ≡ false ∷ false ∷ false ∷ false ∷ false ∷ []
row_line_of_a_blocked_rank = refl

-- a step of rank 1 hits no line of rank 0, but a release does
pub row_line_of_another_rank : hit_by_line 9 (Local 1 ∷ Wake 1 ∷ WakeAny 1 0 ∷ Release ∷ []) ≡ false ∷ false ∷ false ∷ true ∷ []
row_line_of_another_rank = refl

-- the send was issued by statement 0, the receive by statement 1
abbrev hit_by_match : ℕ → List Bool
hit_by_match line = of_steps (λ a. match_hits two_lines line None a behind_them)

pub row_match : map {B = List Bool} hit_by_match (4 ∷ 9 ∷ 5 ∷ [])
    ≡ (false ∷ true ∷ false ∷ false ∷ false ∷ []) ∷ (false ∷ true ∷ false ∷ false ∷ false ∷ []) ∷ (false ∷ false ∷ false ∷ false ∷ false ∷ []) ∷ []
row_match = refl

-- rank 0 isn't blocked, rank 1 is, and there is no rank 2
pub row_rank : map {B = List Bool} (λ p. of_steps (λ a. rank_hits p a behind_them)) (0 ∷ 1 ∷ 2 ∷ [])
    ≡ (true ∷ false ∷ true ∷ true ∷ true ∷ []) ∷ (false ∷ false ∷ false ∷ false ∷ false ∷ []) ∷ (false ∷ false ∷ false ∷ false ∷ false ∷ []) ∷ []
row_rank = refl
