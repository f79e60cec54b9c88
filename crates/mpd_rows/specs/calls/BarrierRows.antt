-- Worked rows of barriers: what issues one, when all ranks leave it, and what match sets say of it. What is wanted was worked out by hand.
use Rattle.std.specs.Prelude.{◌≡◌, ℕ, pos, Bool, true, false, map, List, [], ◌∷◌, ◌++◌, Option, Some, None, codes, refl}
use Rattle.std.specs.Option.{option_map}
use Rattle.std.specs.Fmt.{digits}
use Rattle.mpd_model.specs.declared.expr.BinaryOp.TheVariants.{Equal}
use Rattle.mpd_model.specs.declared.place.Place.{Place}
use Rattle.mpd_model.specs.declared.step.Step.{Step}
use Rattle.mpd_model.specs.declared.step.Step.TheVariants.{Local, Release}
use Rattle.mpd_model.specs.declared.call.Call.{Call}
use Rattle.mpd_model.specs.declared.call.CallKind.{CallKind}
use Rattle.mpd_model.specs.declared.call.CallKind.TheVariants.{Send, Recv, Barrier}
use Rattle.mpd_model.specs.declared.call.Mode.TheVariants.{Rendezvous, Buffered}
use Rattle.mpd_model.specs.declared.call.Activity.TheVariants.{Running, Blocked}
use Rattle.mpd_model.specs.declared.call.MatchSet.{MatchSet}
use Rattle.mpd_model.specs.declared.call.MatchSet.TheVariants.{Pair, Woke}
use Rattle.mpd_model.specs.declared.call.MatchSet.TheVariants as set
use Rattle.mpd_model.specs.declared.outcome.Outcome.TheVariants as o
use Rattle.mpd_model.specs.script.Tree.{branch, no_more, then_more}
use Rattle.mpd_model.specs.script.Program.{Program}
use Rattle.mpd_model.specs.script.Term.{own_rank, op2}
use Rattle.mpd_model.specs.steps.World.{Board, RankWorld, call_id, start_board, is_free, fitting, message_of, complete}
use Rattle.mpd_model.specs.steps.Next.{next, enabled, writes_of, cleared_by}
use Rattle.mpd_model.specs.steps.Order.{matches_first, waits_for, blocks_rank, before, names, is_exit}
use Rattle.mpd_model.specs.steps.Outcomes.{issued_by, outcome}
use Rattle.mpd_model.specs.steps.Why.{why}
use Rattle.mpd_rows.specs.worlds.Statements.{check, recv, isend, wait, barrier}
use Rattle.mpd_rows.specs.calls.RequestRows.{n, whole, x, does, blocks, variable, request, script, two_parts, trace, after}

-- ---- one rank: a barrier blocks it, and evaluates nothing

pub row_barrier : does barrier ≡ blocks Barrier
row_barrier = refl

-- ---- two ranks: neither goes on before the other is there

abbrev meeting : Program
meeting = script 2 [] (barrier ∷ [])

pub row_meeting : trace meeting (codes "local 0\nrelease\nlocal 1\nrelease\nshow\nback\nshow\n")
    ≡ codes "ok 1\nrefused not-enabled\nok 2\nok 3\n"
    ++ codes "depth 3 of 3\nrank 0 ended\nvars\nhandles\nout\ncall 0.0 barrier\nrank 1 ended\nvars\nhandles\nout\ncall 1.0 barrier\nset barrier\noutcome done\nend\n"
    ++ codes "ok 2\ndepth 2 of 3\nrank 0 blocked 0\nvars\nhandles\nout\ncall 0.0 barrier\nrank 1 blocked 0\nvars\nhandles\nout\ncall 1.0 barrier\nend\n"
unfolding digits
row_meeting = refl

-- the steps that are enabled: no wake is, and the release once both are there
abbrev steps_behind : Program → List Step → Option (List Step)
steps_behind s steps = option_map enabled (after s steps)

pub row_meeting_steps : map {B = Option (List Step)} (steps_behind meeting) ([] ∷ (Local 0 ∷ []) ∷ (Local 1 ∷ []) ∷ (Local 1 ∷ Local 0 ∷ []) ∷ (Local 0 ∷ Local 1 ∷ Release ∷ []) ∷ [])
    ≡ Some (Local 0 ∷ Local 1 ∷ []) ∷ Some (Local 1 ∷ []) ∷ Some (Local 0 ∷ []) ∷ Some (Release ∷ []) ∷ Some [] ∷ []
row_meeting_steps = refl

-- both ranks run again, and the match set is one for both
abbrev gone_on : RankWorld
gone_on = record { rest = []; vars = []; handles = []; out = []; activity = Running }

abbrev issued_barrier : Call
issued_barrier = record { statement = 0; kind = Barrier }

pub row_released : after meeting (Local 0 ∷ Local 1 ∷ Release ∷ [])
    ≡ Some (record { ranks = gone_on ∷ gone_on ∷ []; board = record { mode = Rendezvous; calls = (issued_barrier ∷ []) ∷ (issued_barrier ∷ []) ∷ []; sets = set.Barrier ∷ [] } })
row_released = refl

-- ---- who isn't at a barrier keeps the others there

-- a rank that has ended: `if rank == 1 { barrier; }`
abbrev one_ended : Program
one_ended = script 2 [] (two_parts no_more (then_more barrier no_more))

pub row_one_ended : trace one_ended (codes "local 0\nlocal 1\nlocal 1\nrelease\nwake 1\nshow\n")
    ≡ codes "ok 1\nok 2\nok 3\nrefused not-enabled\nrefused not-enabled\n"
    ++ codes "depth 3 of 3\nrank 0 ended\nvars\nhandles\nout\nrank 1 blocked 0\nvars\nhandles\nout\ncall 1.0 barrier\noutcome deadlock 1.0\nend\n"
unfolding digits
row_one_ended = refl

-- one that is trapped: `if rank == 0 { assert 0; } else { barrier; }`
pub row_one_trapped : trace (script 2 [] (two_parts (then_more (check (n 0)) no_more) (then_more barrier no_more))) (codes "local 0\nlocal 0\nlocal 1\nlocal 1\nrelease\nenabled\nshow\n")
    ≡ codes "ok 1\nok 2\nok 3\nok 4\nrefused not-enabled\nenabled\n"
    ++ codes "depth 4 of 4\nrank 0 trapped assert\nvars\nhandles\nout\nrank 1 blocked 0\nvars\nhandles\nout\ncall 1.0 barrier\noutcome trap 0 assert\nend\n"
unfolding digits
row_one_trapped = refl

-- one that is blocked on a receive, with a barrier after it: `if rank == 0 { recv x from 1 tag 0; } barrier;`
abbrev one_receives : Program
one_receives = script 2 (variable (codes "x") ∷ []) (branch (op2 Equal own_rank (n 0)) (then_more (recv (whole x) (n 1) (n 0)) no_more) no_more ∷ barrier ∷ [])

pub row_one_receives : option_map outcome (after one_receives (Local 0 ∷ Local 0 ∷ Local 1 ∷ Local 1 ∷ [])) ≡ Some (Some (o.Deadlock (issued_by 1 (call_id 0 0) ∷ issued_by 2 (call_id 1 0) ∷ [])))
row_one_receives = refl

-- the last of three that comes
pub row_three : map {B = Option (List Step)} (steps_behind (script 3 [] (barrier ∷ []))) ((Local 2 ∷ Local 0 ∷ []) ∷ (Local 2 ∷ Local 0 ∷ Local 1 ∷ []) ∷ []) ≡ Some (Local 1 ∷ []) ∷ Some (Release ∷ []) ∷ []
row_three = refl

-- a rank alone meets nobody, and where there is no rank there is no release
pub row_alone : map {B = Option (List Step)} (steps_behind (script 1 [] (barrier ∷ []))) ((Local 0 ∷ []) ∷ (Local 0 ∷ Release ∷ []) ∷ []) ≡ Some (Release ∷ []) ∷ Some [] ∷ []
row_alone = refl

pub row_nobody : next (record { ranks = []; board = start_board 0 Rendezvous }) Release ≡ None
row_nobody = refl

-- all ranks count, also one whose calls aren't there
pub row_without_calls : next (record { ranks = record gone_on { activity = Blocked } ∷ gone_on ∷ []; board = record { mode = Rendezvous; calls = (issued_barrier ∷ []) ∷ []; sets = [] } }) Release ≡ None
row_without_calls = refl

-- ---- two barriers: each release is of one call of each rank

-- `barrier; if rank == 0 { barrier; }`
abbrev again : Program
again = script 2 [] (barrier ∷ branch (op2 Equal own_rank (n 0)) (then_more barrier no_more) no_more ∷ [])

abbrev once : List Step
once = Local 0 ∷ Local 1 ∷ Release ∷ Local 0 ∷ []

pub row_again : map {B = Option (List Step)} (λ steps. steps_behind again (once ++ steps)) ([] ∷ (Local 0 ∷ []) ∷ (Local 0 ∷ Local 1 ∷ []) ∷ []) ≡ Some (Local 0 ∷ Local 1 ∷ []) ∷ Some (Local 1 ∷ []) ∷ Some [] ∷ []
row_again = refl

pub row_again_stuck : option_map outcome (after again (once ++ (Local 0 ∷ Local 1 ∷ []))) ≡ Some (Some (o.Deadlock (issued_by 2 (call_id 0 1) ∷ [])))
row_again_stuck = refl

-- ---- a barrier completes no other call, is never free, and is never complete

-- `isend r 1 to 0 tag 0; barrier; wait r;`
abbrev r : Place
r = record { declaration = 0; first = 0; cells = 1 }

pub row_completes_nothing : trace (script 1 (request (codes "r") None ∷ []) (isend (whole r) (n 1) (n 0) (n 0) ∷ barrier ∷ wait (whole r) ∷ [])) (codes "local 0\nlocal 0\nrelease\nlocal 0\nwake 0\nshow\n")
    ≡ codes "ok 1\nok 2\nok 3\nok 4\nrefused not-enabled\n"
    ++ codes "depth 4 of 4\nrank 0 blocked 2\nvars\nhandles 0\nout\ncall 0.0 isend to 0 tag 0 value 1 free\ncall 0.1 barrier\ncall 0.2 wait 0\npending 0 to 0: 0\nset barrier\noutcome deadlock 0.2\nend\n"
unfolding digits
row_completes_nothing = refl

-- whatever stands on a board, in either mode
abbrev odd : List Board
odd =
    record { mode = Rendezvous; calls = (issued_barrier ∷ []) ∷ []; sets = [] } ∷ record { mode = Buffered; calls = (issued_barrier ∷ []) ∷ []; sets = [] }
    ∷ record { mode = Buffered; calls = (issued_barrier ∷ []) ∷ []; sets = Pair (call_id 0 0) (call_id 0 0) ∷ [] } ∷ record { mode = Rendezvous; calls = (issued_barrier ∷ []) ∷ []; sets = set.Barrier ∷ Woke (call_id 0 0) ∷ [] } ∷ []

pub row_never_complete : map {B = Bool × Bool} (λ b. (complete b (call_id 0 0), is_free b (call_id 0 0))) odd ≡ (false, false) ∷ (false, false) ∷ (false, false) ∷ (false, false) ∷ []
row_never_complete = refl

-- it fits nothing and nothing fits it, it has no message, and no wake writes or clears anything for it
abbrev a_send : Option CallKind
a_send = Some (Send (record { to = 0; tag = 0; value = pos 4; synchronous = false; blocks = true; buffered = false }))

abbrev a_receive : Option CallKind
a_receive = Some (Recv (record { from = None; tag = None; cell = 0; status = None; blocks = true }))

abbrev a_barrier : Option CallKind
a_barrier = Some Barrier

pub row_fits_nothing : map {B = Bool} (λ (k : Option CallKind × Option CallKind). fitting k.0 k.1 0 0) ((a_send, a_receive) ∷ (a_send, a_barrier) ∷ (a_barrier, a_receive) ∷ (a_barrier, a_barrier) ∷ []) ≡ true ∷ false ∷ false ∷ false ∷ []
row_fits_nothing = refl

pub row_no_message : message_of (call_id 0 0) a_barrier ≡ None
row_no_message = refl

pub row_writes_nothing : writes_of a_barrier (Some (record { value = pos 4; source = 0; tag = 0 })) ≡ []
row_writes_nothing = refl

pub row_clears_nothing : cleared_by a_barrier ≡ None
row_clears_nothing = refl

-- it is matched before nothing and waits for no call; its rank waits for it
pub row_orders_no_match : map {B = Bool} (λ (k : Option CallKind × Option CallKind). matches_first k.0 k.1) ((a_send, a_barrier) ∷ (a_receive, a_barrier) ∷ (a_barrier, a_barrier) ∷ (a_barrier, a_send) ∷ []) ≡ false ∷ false ∷ false ∷ false ∷ []
row_orders_no_match = refl

pub row_waits_for_no_call : waits_for a_barrier 0 ≡ false
row_waits_for_no_call = refl

pub row_blocks_its_rank : blocks_rank a_barrier ≡ true
row_blocks_its_rank = refl

pub row_no_partners : map (λ b. why b (call_id 0 0)) odd ≡ [] ∷ [] ∷ [] ∷ [] ∷ []
row_no_partners = refl

-- ---- the order of calls

-- rank 0: a barrier, an `isend`, a barrier, a `send`, a barrier; rank 1: two barriers
abbrev sends : Bool → Call
sends waited = record { statement = 1; kind = Send (record { to = 1; tag = 0; value = pos 4; synchronous = false; blocks = waited; buffered = false }) }

abbrev between : Board
between = record { mode = Rendezvous; calls = (issued_barrier ∷ sends false ∷ issued_barrier ∷ sends true ∷ issued_barrier ∷ []) ∷ (issued_barrier ∷ issued_barrier ∷ []) ∷ []; sets = [] }

-- the later of two calls of rank 0, for each earlier one: a barrier completes before all that follow it, and is after what blocks
pub row_before : map {B = Bool} (λ (c : ℕ × ℕ). before between (call_id 0 c.0) (call_id 0 c.1)) ((0, 1) ∷ (0, 2) ∷ (0, 4) ∷ (1, 2) ∷ (1, 4) ∷ (3, 4) ∷ (2, 0) ∷ (4, 5) ∷ []) ≡ true ∷ true ∷ true ∷ false ∷ false ∷ true ∷ false ∷ false ∷ []
row_before = refl

pub row_before_elsewhere : before between (call_id 0 0) (call_id 1 1) ≡ false
row_before_elsewhere = refl

-- which calls of rank 0, and then of rank 1, a release names: the first, and the third after two
abbrev named_by : List MatchSet → List Bool
named_by front = map {B = Bool} (λ i. names between front set.Barrier (call_id 0 i)) (0 ∷ 1 ∷ 2 ∷ 3 ∷ 4 ∷ []) ++ map {B = Bool} (λ i. names between front set.Barrier (call_id 1 i)) (0 ∷ 1 ∷ 2 ∷ [])

pub row_first_release : named_by (Woke (call_id 0 3) ∷ []) ≡ true ∷ false ∷ false ∷ false ∷ false ∷ true ∷ false ∷ false ∷ []
row_first_release = refl

pub row_second_release : named_by (set.Barrier ∷ Pair (call_id 0 1) (call_id 1 0) ∷ []) ≡ false ∷ false ∷ true ∷ false ∷ false ∷ false ∷ true ∷ false ∷ []
row_second_release = refl

pub row_third_release : named_by (set.Barrier ∷ set.Barrier ∷ []) ≡ false ∷ false ∷ false ∷ false ∷ true ∷ false ∷ false ∷ false ∷ []
row_third_release = refl

-- by what a rank goes on from a call: its wake, or its release, but not its pair
pub row_exits : map {B = Bool} (λ (m : MatchSet). is_exit between [] m (call_id 0 3)) (Woke (call_id 0 3) ∷ Woke (call_id 0 2) ∷ Pair (call_id 0 3) (call_id 1 0) ∷ set.Barrier ∷ []) ≡ true ∷ false ∷ false ∷ false ∷ []
row_exits = refl

pub row_barrier_exits : map {B = Bool} (λ (m : MatchSet). is_exit between (set.Barrier ∷ []) m (call_id 0 2)) (set.Barrier ∷ Woke (call_id 0 0) ∷ Pair (call_id 0 2) (call_id 0 2) ∷ []) ≡ true ∷ false ∷ false ∷ []
row_barrier_exits = refl
