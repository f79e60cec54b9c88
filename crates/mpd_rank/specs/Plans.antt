-- What a node does, and what its plan makes of a rank.
use Rattle.std.specs.Prelude.{ℕ, ◌<◌, ℤ, [], ◌∷◌, ◌++◌, slice_set, if◌then◌else◌, Option, Some, None, Result, Ok, Err}
use Rattle.mpd_model.specs.declared.limits.TheConstants.{TAGS}
use Rattle.mpd_model.specs.declared.call.Call.{Call}
use Rattle.mpd_model.specs.declared.call.CallKind.{CallKind}
use Rattle.mpd_model.specs.declared.call.CallKind.TheVariants.{Send}
use Rattle.mpd_model.specs.declared.call.Issue.{Issue as Issued}
use Rattle.mpd_model.specs.declared.call.Trap.{Trap as Reason}
use Rattle.mpd_model.specs.declared.call.Trap.TheVariants.{Assertion}
use Rattle.mpd_model.specs.declared.stmt.Simple.{Simple}
use Rattle.mpd_model.specs.declared.stmt.Simple.TheVariants as st
use Rattle.mpd_model.specs.script.Term.{Value, Env, value_of, is_zero}
use Rattle.mpd_model.specs.script.Program.{Program}
use Rattle.mpd_model.specs.steps.World.{RankWorld}
use Rattle.mpd_model.specs.steps.Next.{Ran, HasReceiver, trapped, requested, activity_after, send_issue, ssend_issue, recv_issue, isend_issue, issend_issue, irecv_issue, wait_issue, waitany_issue, barrier_issue, assignment}
use Rattle.mpd_code.specs.declared.node.Action.{Action}
use Rattle.mpd_code.specs.declared.node.Action.TheVariants as a
use Rattle.mpd_code.specs.Left.{left_at}
use Rattle.mpd_rank.specs.declared.plan.Alone.{Alone}
use Rattle.mpd_rank.specs.declared.plan.Alone.TheVariants.{Move, Print, Assign, Trap}
use Rattle.mpd_rank.specs.declared.plan.LocalPlan.{LocalPlan}
use Rattle.mpd_rank.specs.declared.plan.LocalPlan.TheVariants as plan

abbrev pub print_plan : Value → ℕ → Alone
print_plan (Ok v) next = Print v next
print_plan (Err t) next = Trap t

abbrev pub assign_plan : Result (ℕ × ℤ) Reason → ℕ → Alone
assign_plan (Ok w) next = Assign w.0 w.1 next
assign_plan (Err t) next = Trap t

abbrev pub issue_plan : Result Issued Reason → ℕ → LocalPlan
issue_plan (Ok a) next = plan.Issue a next
issue_plan (Err t) next = plan.Alone (Trap t)

abbrev pub assert_plan : Value → ℕ → Alone
assert_plan (Ok v) next = if is_zero v then Trap Assertion else Move next
assert_plan (Err t) next = Trap t

abbrev pub choice_plan : Value → ℕ → ℕ → Alone
choice_plan (Ok v) holds fails = Move (if is_zero v then fails else holds)
choice_plan (Err t) holds fails = Trap t

-- what a statement that holds no other does, given what follows it
abbrev pub simple_plan : Simple → ℕ → Env → LocalPlan
simple_plan (st.Print e) next env = plan.Alone (print_plan (value_of e env) next)
simple_plan (st.Assign s) next env = plan.Alone (assign_plan (assignment s env) next)
simple_plan (st.Assert e) next env = plan.Alone (assert_plan (value_of e env) next)
simple_plan (st.Send s) next env = issue_plan (send_issue s env) next
simple_plan (st.Ssend s) next env = issue_plan (ssend_issue s env) next
simple_plan (st.Recv s) next env = issue_plan (recv_issue s env) next
simple_plan (st.Isend s) next env = issue_plan (isend_issue s env) next
simple_plan (st.Issend s) next env = issue_plan (issend_issue s env) next
simple_plan (st.Irecv s) next env = issue_plan (irecv_issue s env) next
simple_plan (st.Wait t) next env = issue_plan (wait_issue t env) next
simple_plan (st.Waitany s) next env = issue_plan (waitany_issue s env) next
simple_plan st.Barrier next env = issue_plan barrier_issue next

-- what any action does
abbrev pub plan_of : Action → ℕ → Env → LocalPlan
plan_of (a.Simple s) next env = simple_plan s next env
plan_of (a.Branch c first second) next env = plan.Alone (choice_plan (value_of c env) first second)
plan_of (a.Repeat c body) next env = plan.Alone (choice_plan (value_of c env) body next)

-- what a plan without a call makes of a rank
abbrev pub planned_alone : Program → RankWorld → Alone → RankWorld
planned_alone s r (Move next) = record r { rest = left_at s next }
planned_alone s r (Print v next) = record r { rest = left_at s next; out = r.out ++ v ∷ [] }
planned_alone s r (Assign cell v next) = record r { rest = left_at s next; vars = slice_set r.vars cell v }
planned_alone s r (Trap t) = trapped r t

-- what a plan makes of a rank that has issued so many calls
abbrev pub planned : Program → RankWorld → ℕ → LocalPlan → RankWorld
planned s r count (plan.Alone a) = planned_alone s r a
planned s r count (plan.Issue a next) = record r { rest = left_at s next; handles = requested a.handle (Some count) r.handles; activity = activity_after a.kind }

-- the call that a plan issues, of the statement of a number
abbrev pub plan_call : ℕ → LocalPlan → Option Call
plan_call number (plan.Alone a) = None
plan_call number (plan.Issue a next) = Some (record { statement = number; kind = a.kind })

-- a send has a tag
abbrev pub HasTag : Option CallKind → Type 0
HasTag (Some (Send s)) = s.tag < TAGS
HasTag kind = Unit {0}

-- a plan that issues a send issues one to a rank, with a tag
abbrev pub HasPlannedReceiver : ℕ → LocalPlan → Type 0
HasPlannedReceiver n (plan.Alone a) = Unit {0}
HasPlannedReceiver n (plan.Issue a next) = HasReceiver n a.kind × HasTag (Some a.kind)

-- both, of a rank that stands at a statement of a number
abbrev pub plan_ran : Program → RankWorld → ℕ → ℕ → LocalPlan → Ran
plan_ran s r count number p = record { rank = planned s r count p; call = plan_call number p }
