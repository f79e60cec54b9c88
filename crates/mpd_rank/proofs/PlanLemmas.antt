-- What a node plans is what its statement makes of a rank.
use Rattle.std.proofs.Common.{◌≡◌, ℕ, ◌+◌, ◌<◌, ℤ, pos, negsuc, cond, nat_lt, Bool, true, false, List, [], ◌∷◌, ◌++◌, Option, Some, None, IfSome, Result, Ok, Err, refl, sym, ap, ◌∙◌, subst, subst₂}
use Rattle.std.proofs.lemmas.Bool.{ltb-true}
use Rattle.mpd_model.specs.declared.call.Activity.TheVariants.{Running, Blocked, Trapped}
use Rattle.mpd_model.specs.declared.call.Activity.{Activity}
use Rattle.mpd_model.specs.declared.call.Issue.{Issue}
use Rattle.mpd_model.specs.declared.call.Trap.{Trap}
use Rattle.mpd_model.specs.declared.stmt.Simple.{Simple}
use Rattle.mpd_model.specs.declared.stmt.Simple.TheVariants as st
use Rattle.mpd_model.specs.declared.stmt.SendStmt.{SendStmt}
use Rattle.mpd_model.specs.declared.stmt.RecvStmt.{RecvStmt}
use Rattle.mpd_model.specs.declared.stmt.WaitanyStmt.{WaitanyStmt}
use Rattle.mpd_model.specs.declared.call.CallKind.{CallKind}
use Rattle.mpd_model.specs.declared.limits.TheConstants.{TAGS}
use Rattle.mpd_model.specs.declared.call.Trap.TheVariants.{BadRank, BadTag}
use Rattle.mpd_model.specs.script.Term.{Term, Target, Value, Env, and_then, value_of, checked, target_cell, is_zero}
use Rattle.mpd_model.specs.script.Tree.{Tree, Block, repeat, trees, statements_in, numbered}
use Rattle.mpd_model.specs.script.Program.{Program}
use Rattle.mpd_model.specs.steps.World.{RankWorld}
use Rattle.mpd_model.specs.steps.Next.{HasReceiver, alone, local, env_of, ran, ran_simple, printed, issued, assigned, asserted, chosen, repeated, send_issue, ssend_issue, recv_issue, isend_issue, issend_issue, irecv_issue, wait_issue, waitany_issue, barrier_issue, assignment, rank_value, tag_value, source_value, any_tag_value, status_cells, send_kind, recv_kind, wait_kind, waitany_kind, awaiting}
use Rattle.mpd_code.specs.declared.node.Node.{Node}
use Rattle.mpd_code.specs.declared.node.Action.{Action}
use Rattle.mpd_code.specs.declared.node.Action.TheVariants as a
use Rattle.mpd_code.specs.Left.{left_at}
use Rattle.mpd_code.specs.Stands.{Does, Stands}
use Rattle.mpd_rank.specs.declared.plan.Alone.{Alone as Own}
use Rattle.mpd_rank.specs.declared.plan.Alone.TheVariants as own
use Rattle.mpd_rank.specs.declared.plan.LocalPlan.{LocalPlan}
use Rattle.mpd_rank.specs.declared.plan.LocalPlan.TheVariants.{Alone}
use Rattle.mpd_rank.specs.declared.change.LocalChange.{LocalChange}
use Rattle.mpd_rank.specs.Views.{RankView, rank_of}
use Rattle.mpd_rank.specs.Records.{print_change, issue_change, write_change, assert_change, choice_change, simple_change, change_of, local_record, alone_change, alone_record, plan_change, plan_record, IsPlanned}
use Rattle.mpd_rank.specs.Undone.{LocalDone, entry_at, assigned_change, IsOwn}
use Rattle.mpd_rank.specs.Plans.{plan_of, simple_plan, planned_alone, plan_ran, HasTag, HasPlannedReceiver, print_plan, assign_plan, issue_plan, assert_plan, choice_plan}

print_ran : (s : Program) (r : RankWorld) (n i next : ℕ) (v : Value) → plan_ran s r n i (Alone (print_plan v next)) ≡ alone (printed r (left_at s next) v)
print_ran s r n i next (Ok v) = refl
print_ran s r n i next (Err t) = refl

issue_ran : (s : Program) (r : RankWorld) (n i next : ℕ) (k : Result Issue Trap) → plan_ran s r n i (issue_plan k next) ≡ issued r (left_at s next) i n k
issue_ran s r n i next (Ok k) = refl
issue_ran s r n i next (Err t) = refl

assign_ran : (s : Program) (r : RankWorld) (n i next : ℕ) (w : Result (ℕ × ℤ) Trap) → plan_ran s r n i (Alone (assign_plan w next)) ≡ alone (assigned r (left_at s next) w)
assign_ran s r n i next (Ok w) = refl
assign_ran s r n i next (Err t) = refl

assert_by : (s : Program) (r : RankWorld) (n i next : ℕ) (v : ℤ) (b : Bool) → is_zero v ≡ b → plan_ran s r n i (Alone (assert_plan (Ok v) next)) ≡ alone (asserted r (left_at s next) (Ok v))
assert_by s r n i next v true e = rw e refl
assert_by s r n i next v false e = rw e refl

assert_ran : (s : Program) (r : RankWorld) (n i next : ℕ) (v : Value) → plan_ran s r n i (Alone (assert_plan v next)) ≡ alone (asserted r (left_at s next) v)
assert_ran s r n i next (Ok v) = assert_by s r n i next v (is_zero v) refl
assert_ran s r n i next (Err t) = refl

choice_by : (s : Program) (r : RankWorld) (n i first second : ℕ) (tail : List (ℕ × Tree)) (x y : Block) (v : ℤ) (b : Bool) → is_zero v ≡ b
    → left_at s first ≡ numbered (i + 1) (trees x) ++ tail → left_at s second ≡ numbered (i + 1 + statements_in x) (trees y) ++ tail
    → plan_ran s r n i (Alone (choice_plan (Ok v) first second)) ≡ alone (chosen r tail i (Ok v) x y)
choice_by s r n i first second tail x y v true e h g = rw (e, g) refl
choice_by s r n i first second tail x y v false e h g = rw (e, h) refl

choice_ran : (s : Program) (r : RankWorld) (n i first second : ℕ) (tail : List (ℕ × Tree)) (x y : Block) (v : Value)
    → left_at s first ≡ numbered (i + 1) (trees x) ++ tail → left_at s second ≡ numbered (i + 1 + statements_in x) (trees y) ++ tail
    → plan_ran s r n i (Alone (choice_plan v first second)) ≡ alone (chosen r tail i v x y)
choice_ran s r n i first second tail x y (Ok v) h g = choice_by s r n i first second tail x y v (is_zero v) refl h g
choice_ran s r n i first second tail x y (Err t) h g = refl

repeat_by : (s : Program) (r : RankWorld) (n i body next : ℕ) (c : Term) (x : Block) (v : ℤ) (b : Bool) → is_zero v ≡ b
    → left_at s body ≡ numbered (i + 1) (trees x) ++ (i, repeat c x) ∷ left_at s next
    → plan_ran s r n i (Alone (choice_plan (Ok v) body next)) ≡ alone (repeated r (left_at s next) i (Ok v) c x)
repeat_by s r n i body next c x v true e h = rw e refl
repeat_by s r n i body next c x v false e h = rw (e, h) refl

repeat_ran : (s : Program) (r : RankWorld) (n i body next : ℕ) (c : Term) (x : Block) (v : Value)
    → left_at s body ≡ numbered (i + 1) (trees x) ++ (i, repeat c x) ∷ left_at s next
    → plan_ran s r n i (Alone (choice_plan v body next)) ≡ alone (repeated r (left_at s next) i v c x)
repeat_ran s r n i body next c x (Ok v) h = repeat_by s r n i body next c x v (is_zero v) refl h
repeat_ran s r n i body next c x (Err t) h = refl

simple_ran : (s : Program) (env : Env) (r : RankWorld) (n i next : ℕ) (t : Simple) → plan_ran s r n i (simple_plan t next env) ≡ ran_simple env r n i t (left_at s next)
simple_ran s env r n i next (st.Print e) = print_ran s r n i next (value_of e env)
simple_ran s env r n i next (st.Assign t) = assign_ran s r n i next (assignment t env)
simple_ran s env r n i next (st.Assert e) = assert_ran s r n i next (value_of e env)
simple_ran s env r n i next (st.Send t) = issue_ran s r n i next (send_issue t env)
simple_ran s env r n i next (st.Ssend t) = issue_ran s r n i next (ssend_issue t env)
simple_ran s env r n i next (st.Recv t) = issue_ran s r n i next (recv_issue t env)
simple_ran s env r n i next (st.Isend t) = issue_ran s r n i next (isend_issue t env)
simple_ran s env r n i next (st.Issend t) = issue_ran s r n i next (issend_issue t env)
simple_ran s env r n i next (st.Irecv t) = issue_ran s r n i next (irecv_issue t env)
simple_ran s env r n i next (st.Wait t) = issue_ran s r n i next (wait_issue t env)
simple_ran s env r n i next (st.Waitany t) = issue_ran s r n i next (waitany_issue t env)
simple_ran s env r n i next st.Barrier = issue_ran s r n i next barrier_issue

does_ran : (s : Program) (env : Env) (r : RankWorld) (n i next : ℕ) (act : Action) (t : Tree) → Does (left_at s) i (left_at s next) act t
    → plan_ran s r n i (plan_of act next env) ≡ ran env r n i t (left_at s next)
does_ran s env r n i next (a.Simple b) t d = rw d (simple_ran s env r n i next b)
does_ran s env r n i next (a.Branch c first second) t d = rw d.1.1.0 (choice_ran s r n i first second (left_at s next) d.0 d.1.0 (value_of c env) d.1.1.1.0 d.1.1.1.1)
does_ran s env r n i next (a.Repeat c body) t d = rw d.1.0 (repeat_ran s r n i body next c d.0 (value_of c env) d.1.1)

-- ---- what a plan records is what its statement does

print_recorded : (vars : List ℤ) (handles : List (Option ℕ)) (next : ℕ) (v : Value) → plan_change vars handles (Alone (print_plan v next)) ≡ print_change v
print_recorded vars handles next (Ok v) = refl
print_recorded vars handles next (Err t) = refl

issue_recorded : (vars : List ℤ) (handles : List (Option ℕ)) (next : ℕ) (k : Result Issue Trap) → plan_change vars handles (issue_plan k next) ≡ issue_change handles k
issue_recorded vars handles next (Ok k) = refl
issue_recorded vars handles next (Err t) = refl

assign_recorded : (vars : List ℤ) (handles : List (Option ℕ)) (next : ℕ) (w : Result (ℕ × ℤ) Trap) → plan_change vars handles (Alone (assign_plan w next)) ≡ write_change vars w
assign_recorded vars handles next (Ok w) = refl
assign_recorded vars handles next (Err t) = refl

assert_tested : (vars : List ℤ) (handles : List (Option ℕ)) (next : ℕ) (v : ℤ) (b : Bool) → is_zero v ≡ b → plan_change vars handles (Alone (assert_plan (Ok v) next)) ≡ assert_change (Ok v)
assert_tested vars handles next v true e = rw e refl
assert_tested vars handles next v false e = rw e refl

assert_recorded : (vars : List ℤ) (handles : List (Option ℕ)) (next : ℕ) (v : Value) → plan_change vars handles (Alone (assert_plan v next)) ≡ assert_change v
assert_recorded vars handles next (Ok v) = assert_tested vars handles next v (is_zero v) refl
assert_recorded vars handles next (Err t) = refl

choice_recorded : (vars : List ℤ) (handles : List (Option ℕ)) (first second : ℕ) (v : Value) → plan_change vars handles (Alone (choice_plan v first second)) ≡ choice_change v
choice_recorded vars handles first second (Ok v) = refl
choice_recorded vars handles first second (Err t) = refl

simple_recorded : (env : Env) (next : ℕ) (t : Simple) → plan_change env.vars env.handles (simple_plan t next env) ≡ simple_change env t
simple_recorded env next (st.Print e) = print_recorded env.vars env.handles next (value_of e env)
simple_recorded env next (st.Assign t) = assign_recorded env.vars env.handles next (assignment t env)
simple_recorded env next (st.Assert e) = assert_recorded env.vars env.handles next (value_of e env)
simple_recorded env next (st.Send t) = issue_recorded env.vars env.handles next (send_issue t env)
simple_recorded env next (st.Ssend t) = issue_recorded env.vars env.handles next (ssend_issue t env)
simple_recorded env next (st.Recv t) = issue_recorded env.vars env.handles next (recv_issue t env)
simple_recorded env next (st.Isend t) = issue_recorded env.vars env.handles next (isend_issue t env)
simple_recorded env next (st.Issend t) = issue_recorded env.vars env.handles next (issend_issue t env)
simple_recorded env next (st.Irecv t) = issue_recorded env.vars env.handles next (irecv_issue t env)
simple_recorded env next (st.Wait t) = issue_recorded env.vars env.handles next (wait_issue t env)
simple_recorded env next (st.Waitany t) = issue_recorded env.vars env.handles next (waitany_issue t env)
simple_recorded env next st.Barrier = issue_recorded env.vars env.handles next barrier_issue

does_recorded : (at : ℕ → List (ℕ × Tree)) (env : Env) (i next : ℕ) (tail : List (ℕ × Tree)) (act : Action) (t : Tree) → Does at i tail act t
    → plan_change env.vars env.handles (plan_of act next env) ≡ change_of env t
does_recorded at env i next tail (a.Simple b) t d = rw d (simple_recorded env next b)
does_recorded at env i next tail (a.Branch c first second) t d = rw d.1.1.0 (choice_recorded env.vars env.handles first second (value_of c env))
does_recorded at env i next tail (a.Repeat c body) t d = rw d.1.0 (choice_recorded env.vars env.handles body next (value_of c env))

running_first : (p n count : ℕ) (r : RankWorld) (i : ℕ) (t : Tree) (ts : List (ℕ × Tree)) → r.activity ≡ Running → r.rest ≡ (i, t) ∷ ts → local p n count r ≡ Some (ran (env_of p n r) r count i t ts)
running_first p n count r i t ts e h = rw (e, h) refl

-- a running rank at a node
pub stands_ran : (s : Program) (p n count : ℕ) (r : RankWorld) (i : ℕ) (node : Node) → r.activity ≡ Running → r.rest ≡ left_at s i → Stands (left_at s) i node
    → local p n count r ≡ Some (plan_ran s r count i (plan_of node.action node.next (env_of p n r)))
stands_ran s p n count r i node e h d =
    running_first p n count r i d.statement (left_at s node.next) e (h ∙ d.left) ∙ ap Some (sym (does_ran s (env_of p n r) r count i node.next node.action d.statement d.does))

abbrev recorded_at : ℕ → LocalChange → Option LocalDone
recorded_at i c = Some (record { from = i; change = c })

first_recorded : (p n : ℕ) (r : RankWorld) (i : ℕ) (t : Tree) (ts : List (ℕ × Tree)) → r.activity ≡ Running → r.rest ≡ (i, t) ∷ ts → local_record p n r ≡ Some (record { from = i; change = change_of (env_of p n r) t })
first_recorded p n r i t ts e h = rw (e, h) refl

-- what it records
pub stands_recorded : (s : Program) (p n : ℕ) (v : RankView) (node : Node) → v.activity ≡ Running → Stands (left_at s) v.node node
    → local_record p n (rank_of s v) ≡ Some (plan_record v (plan_of node.action node.next (env_of p n (rank_of s v))))
stands_recorded s p n v node e d =
    first_recorded p n (rank_of s v) v.node d.statement (left_at s node.next) e d.left
    ∙ ap (recorded_at v.node) (sym (does_recorded (left_at s) (env_of p n (rank_of s v)) v.node node.next (left_at s node.next) node.action d.statement d.does))

-- ---- a send goes to a rank

abbrev number_of : Result ℕ Trap → ℕ → ℕ
number_of (Ok k) other = k
number_of (Err t) other = other

below_by : (b : Bool) (i n : ℕ) (t : Trap) (k : ℕ) → nat_lt i n ≡ b → cond b (Ok i) (Err t) ≡ Ok k → k < n
below_by true i n t k e h = subst (λ j. j < n) (ap (λ r. number_of r k) h) (ltb-true i n e)
below_by false i n t k e h = absurd (cc)

checked_below : (v : Value) (n : ℕ) (t : Trap) (k : ℕ) → checked v n t ≡ Ok k → k < n
checked_below (Ok (pos i)) n t k h = below_by (nat_lt i n) i n t k refl h
checked_below (Ok (negsuc i)) n t k h = absurd (cc)
checked_below (Err e) n t k h = absurd (cc)

abbrev Below : ℕ → Result CallKind Trap → Type 0
Below n (Ok k) = HasReceiver n k × HasTag (Some k)
Below n (Err t) = Unit {0}

abbrev AreBelow : ℕ → Result Issue Trap → Type 0
AreBelow n (Ok a) = HasReceiver n a.kind × HasTag (Some a.kind)
AreBelow n (Err t) = Unit {0}

then_below : {A : Type 0} (n : ℕ) (r : Result A Trap) (f : A → Result CallKind Trap) → ((x : A) → r ≡ Ok x → Below n (f x)) → Below n (and_then r f)
then_below n (Ok x) f h = h x refl
then_below n (Err t) f h = tt

send_below : (synchronous blocks : Bool) (s : SendStmt) (env : Env) → Below env.size (send_kind synchronous blocks s env)
send_below synchronous blocks s env =
    then_below env.size (value_of s.value env) _ (λ v h.
    then_below env.size (rank_value s.to env) _ (λ q below.
    then_below env.size (tag_value s.tag env) _ (λ t last. (checked_below (value_of s.to env) env.size BadRank q below, checked_below (value_of s.tag env) TAGS BadTag t last))))

recv_below : (blocks : Bool) (s : RecvStmt) (env : Env) → Below env.size (recv_kind blocks s env)
recv_below blocks s env =
    then_below env.size (target_cell s.into env) _ (λ c h.
    then_below env.size (source_value s.from env) _ (λ q g.
    then_below env.size (any_tag_value s.tag env) _ (λ t f.
    then_below env.size (status_cells s.status env) _ (λ u last. (tt, tt)))))

wait_below : (t : Target) (env : Env) → Below env.size (wait_kind t env)
wait_below t env = then_below env.size (target_cell t env) _ (λ c h. (tt, tt))

waitany_below : (s : WaitanyStmt) (env : Env) → Below env.size (waitany_kind s env)
waitany_below s env = then_below env.size (target_cell s.into env) _ (λ c h. (tt, tt))

awaiting_below : (n : ℕ) (k : Result CallKind Trap) → Below n k → AreBelow n (awaiting k)
awaiting_below n (Ok k) h = h
awaiting_below n (Err t) h = tt

held_below : (n handle : ℕ) (k : Result CallKind Trap) → Below n k → AreBelow n (and_then k (λ kind. Ok (record { kind = kind; handle = Some handle })))
held_below n handle (Ok k) h = h
held_below n handle (Err t) h = tt

held_by_below : (n : ℕ) (r : Result ℕ Trap) (k : Result CallKind Trap) → Below n k → AreBelow n (and_then r (λ handle. and_then k (λ kind. Ok (record { kind = kind; handle = Some handle }))))
held_by_below n (Ok handle) k h = held_below n handle k h
held_by_below n (Err t) k h = tt

issue_below : (n : ℕ) (r : Result Issue Trap) (next : ℕ) → AreBelow n r → HasPlannedReceiver n (issue_plan r next)
issue_below n (Ok a) next h = h
issue_below n (Err t) next h = tt

simple_below : (env : Env) (next : ℕ) (t : Simple) → HasPlannedReceiver env.size (simple_plan t next env)
simple_below env next (st.Print e) = tt
simple_below env next (st.Assign t) = tt
simple_below env next (st.Assert e) = tt
simple_below env next (st.Send t) = issue_below env.size (send_issue t env) next (awaiting_below env.size (send_kind false true t env) (send_below false true t env))
simple_below env next (st.Ssend t) = issue_below env.size (ssend_issue t env) next (awaiting_below env.size (send_kind true true t env) (send_below true true t env))
simple_below env next (st.Recv t) = issue_below env.size (recv_issue t env) next (awaiting_below env.size (recv_kind true t env) (recv_below true t env))
simple_below env next (st.Isend t) = issue_below env.size (isend_issue t env) next (held_by_below env.size (target_cell t.request env) (send_kind false false t.send env) (send_below false false t.send env))
simple_below env next (st.Issend t) = issue_below env.size (issend_issue t env) next (held_by_below env.size (target_cell t.request env) (send_kind true false t.send env) (send_below true false t.send env))
simple_below env next (st.Irecv t) = issue_below env.size (irecv_issue t env) next (held_by_below env.size (target_cell t.request env) (recv_kind false t.recv env) (recv_below false t.recv env))
simple_below env next (st.Wait t) = issue_below env.size (wait_issue t env) next (awaiting_below env.size (wait_kind t env) (wait_below t env))
simple_below env next (st.Waitany t) = issue_below env.size (waitany_issue t env) next (awaiting_below env.size (waitany_kind t env) (waitany_below t env))
simple_below env next st.Barrier = (tt, tt)

action_below : (env : Env) (next : ℕ) (act : Action) → HasPlannedReceiver env.size (plan_of act next env)
action_below env next (a.Simple t) = simple_below env next t
action_below env next (a.Branch c first second) = tt
action_below env next (a.Repeat c body) = tt

pub plan_below : (env : Env) (n next : ℕ) (act : Action) (plan : LocalPlan) → env.size ≡ n → plan ≡ plan_of act next env → HasPlannedReceiver n plan
plan_below env n next act plan size is = subst₂ HasPlannedReceiver size (sym is) (action_below env next act)

-- a running rank at a node does what the node plans
pub planned_at : (s : Program) (v : RankView) (node : Node) (plan : LocalPlan) → v.activity ≡ Running → Stands (left_at s) v.node node → plan ≡ plan_of node.action node.next (env_of v.rank s.ranks (rank_of s v)) → IsPlanned s v plan
planned_at s v node plan running d is =
    subst (IsPlanned s v) (sym is) ((λ count. stands_ran s v.rank s.ranks count (rank_of s v) v.node node running refl d), stands_recorded s v.rank s.ranks v node running d)

pub planned_if : (s : Program) (v : RankView) (node : Node) (o : Option Own) → v.activity ≡ Running → Stands (left_at s) v.node node → IfSome o (λ plan. Alone plan ≡ plan_of node.action node.next (env_of v.rank s.ranks (rank_of s v))) → IfSome o (λ plan. IsPlanned s v (Alone plan))
planned_if s v node None running d is = tt
planned_if s v node (Some plan) running d is = planned_at s v node (Alone plan) running d is

-- a rank with nothing left, where it runs
none_by : (p n count : ℕ) (r : RankWorld) (a : Activity) → a ≡ r.activity → (a ≡ Running → r.rest ≡ []) → local p n count r ≡ None
none_by p n count r Running e h = rw (sym e, h refl) refl
none_by p n count r Blocked e h = rw (sym e) refl
none_by p n count r (Trapped t) e h = rw (sym e) refl

pub ended_none : (p n count : ℕ) (r : RankWorld) → (r.activity ≡ Running → r.rest ≡ []) → local p n count r ≡ None
ended_none p n count r h = none_by p n count r r.activity refl h

unrecorded_by : (p n : ℕ) (r : RankWorld) (a : Activity) → a ≡ r.activity → (a ≡ Running → r.rest ≡ []) → local_record p n r ≡ None
unrecorded_by p n r Running e h = rw (sym e, h refl) refl
unrecorded_by p n r Blocked e h = rw (sym e) refl
unrecorded_by p n r (Trapped t) e h = rw (sym e) refl

pub ended_unrecorded : (p n : ℕ) (r : RankWorld) → (r.activity ≡ Running → r.rest ≡ []) → local_record p n r ≡ None
ended_unrecorded p n r h = unrecorded_by p n r r.activity refl h

pub ruleset planning = (ended_none, ended_unrecorded, planned_at, planned_if, plan_below)

-- ---- a plan that issues no call

own_assigned : (o : Option (ℕ × ℤ)) → IsOwn (assigned_change o)
own_assigned None = tt
own_assigned (Some w) = tt

own_change : (vars : List ℤ) (plan : Own) → IsOwn (alone_change vars plan)
own_change vars (own.Move next) = tt
own_change vars (own.Print v next) = tt
own_change vars (own.Assign cell v next) = own_assigned (entry_at vars cell)
own_change vars (own.Trap t) = tt

-- what it changes is its own
pub own_recorded : (v : RankView) (plan : Own) (done : LocalDone) → done ≡ alone_record v plan → IsOwn done.change
own_recorded v plan done e = rw e (own_change v.vars plan)

pub ruleset owning = (own_recorded)

-- and its rank is the same whatever number a call would have
pub stepped_alone : (s : Program) (v w : RankView) (plan : Own) → ((count : ℕ) → local v.rank s.ranks count (rank_of s v) ≡ Some (plan_ran s (rank_of s v) count v.node (Alone plan))) → rank_of s w ≡ planned_alone s (rank_of s v) plan
    → (count : ℕ) → local v.rank s.ranks count (rank_of s v) ≡ Some (record { rank = rank_of s w; call = None })
stepped_alone s v w plan step after count = step count ∙ (λ i. Some (record { rank = sym after i; call = None }))

pub ruleset stepping = (stepped_alone)
