-- What the record of a step says: of a local step where the rank stood, and what it did beside moving it; of a wake what it overwrote.
use Rattle.std.specs.Prelude.{◌≡◌, ℕ, ℤ, List, [], ◌∷◌, if◌then◌else◌, Option, Some, None, Result, Ok, Err}
use Rattle.mpd_model.specs.declared.call.Activity.{Activity}
use Rattle.mpd_model.specs.declared.call.Activity.TheVariants as activity
use Rattle.mpd_model.specs.declared.call.Issue.{Issue}
use Rattle.mpd_model.specs.declared.call.Trap.{Trap as Reason}
use Rattle.mpd_model.specs.declared.stmt.Simple.{Simple}
use Rattle.mpd_model.specs.declared.stmt.Simple.TheVariants as st
use Rattle.mpd_model.specs.script.Term.{Value, Env, value_of, is_zero}
use Rattle.mpd_model.specs.script.Tree.{Tree, simple, branch, repeat}
use Rattle.mpd_model.specs.script.Program.{Program}
use Rattle.mpd_model.specs.steps.World.{RankWorld}
use Rattle.mpd_model.specs.steps.Next.{local, env_of, send_issue, ssend_issue, recv_issue, isend_issue, issend_issue, irecv_issue, wait_issue, waitany_issue, barrier_issue, assignment}
use Rattle.mpd_rank.specs.declared.change.LocalChange.{LocalChange}
use Rattle.mpd_rank.specs.declared.change.LocalChange.TheVariants.{Moved, Printed, Issued, Trapped}
use Rattle.mpd_rank.specs.declared.change.WakeRecord.{WakeRecord}
use Rattle.mpd_rank.specs.declared.plan.Alone.{Alone}
use Rattle.mpd_rank.specs.declared.plan.Alone.TheVariants as own
use Rattle.mpd_rank.specs.declared.plan.LocalPlan.{LocalPlan}
use Rattle.mpd_rank.specs.declared.plan.LocalPlan.TheVariants as plan
use Rattle.mpd_rank.specs.Plans.{plan_ran}
use Rattle.mpd_rank.specs.Undone.{LocalDone, entry_at, entries_before, handle_entry, assigned_change}
use Rattle.mpd_rank.specs.Views.{RankView, rank_of}

-- ---- of a statement, by what it evaluates to: a trap is a change of its own

abbrev pub print_change : Value → LocalChange
print_change (Ok v) = Printed
print_change (Err t) = Trapped

abbrev pub issue_change : List (Option ℕ) → Result Issue Reason → LocalChange
issue_change handles (Ok a) = Issued (handle_entry a.handle handles)
issue_change handles (Err t) = Trapped

abbrev pub write_change : List ℤ → Result (ℕ × ℤ) Reason → LocalChange
write_change vars (Ok w) = assigned_change (entry_at vars w.0)
write_change vars (Err t) = Trapped

abbrev pub assert_change : Value → LocalChange
assert_change (Ok v) = if is_zero v then Trapped else Moved
assert_change (Err t) = Trapped

abbrev pub choice_change : Value → LocalChange
choice_change (Ok v) = Moved
choice_change (Err t) = Trapped

-- what a statement that holds no other does, and what any does
abbrev pub simple_change : Env → Simple → LocalChange
simple_change env (st.Print e) = print_change (value_of e env)
simple_change env (st.Assign s) = write_change env.vars (assignment s env)
simple_change env (st.Assert e) = assert_change (value_of e env)
simple_change env (st.Send s) = issue_change env.handles (send_issue s env)
simple_change env (st.Ssend s) = issue_change env.handles (ssend_issue s env)
simple_change env (st.Recv s) = issue_change env.handles (recv_issue s env)
simple_change env (st.Isend s) = issue_change env.handles (isend_issue s env)
simple_change env (st.Issend s) = issue_change env.handles (issend_issue s env)
simple_change env (st.Irecv s) = issue_change env.handles (irecv_issue s env)
simple_change env (st.Wait t) = issue_change env.handles (wait_issue t env)
simple_change env (st.Waitany s) = issue_change env.handles (waitany_issue s env)
simple_change env st.Barrier = issue_change env.handles barrier_issue

abbrev pub change_of : Env → Tree → LocalChange
change_of env (simple s) = simple_change env s
change_of env (branch c first second) = choice_change (value_of c env)
change_of env (repeat c body) = choice_change (value_of c env)

abbrev pub record_by : Env → Activity → List (ℕ × Tree) → Option LocalDone
record_by env activity.Running [] = None
record_by env activity.Running (t ∷ ts) = Some (record { from = t.0; change = change_of env t.1 })
record_by env activity.Blocked rest = None
record_by env (activity.Trapped t) rest = None

-- the record of the local step of rank p of n, where it has one: the number of its next statement, and what that does
abbrev pub local_record : ℕ → ℕ → RankWorld → Option LocalDone
local_record p n r = record_by (env_of p n r) r.activity r.rest

-- the record of a wake: what the written cells and the cleared handle held
abbrev pub wake_record : RankWorld → List (ℕ × ℤ) → Option ℕ → WakeRecord
wake_record r writes handle = record { cells = entries_before r.vars writes; handle = handle_entry handle r.handles }

-- ---- of a plan

abbrev pub alone_change : List ℤ → Alone → LocalChange
alone_change vars (own.Move next) = Moved
alone_change vars (own.Print v next) = Printed
alone_change vars (own.Assign cell v next) = assigned_change (entry_at vars cell)
alone_change vars (own.Trap t) = Trapped

abbrev pub plan_change : List ℤ → List (Option ℕ) → LocalPlan → LocalChange
plan_change vars handles (plan.Alone a) = alone_change vars a
plan_change vars handles (plan.Issue a next) = Issued (handle_entry a.handle handles)

-- what a rank that stands at a node records of a plan without a call, and of any
abbrev pub alone_record : RankView → Alone → LocalDone
alone_record v a = record { from = v.node; change = alone_change v.vars a }

abbrev pub plan_record : RankView → LocalPlan → LocalDone
plan_record v plan = record { from = v.node; change = plan_change v.vars v.handles plan }

-- a plan of what a rank shows is the definition of its step, and of its record
abbrev pub IsPlanned : Program → RankView → LocalPlan → Type 0
IsPlanned s v plan =
    ((count : ℕ) → local v.rank s.ranks count (rank_of s v) ≡ Some (plan_ran s (rank_of s v) count v.node plan)) × (local_record v.rank s.ranks (rank_of s v) ≡ Some (plan_record v plan))
