-- A local step depends on nothing that its rank has printed.
use Rattle.std.proofs.Common.{◌≡◌, ℕ, ℤ, Bool, true, false, cond, Option, Some, None, option_and_then, Result, Ok, Err, List, [], ◌∷◌, refl, ap}
use Rattle.std.specs.Option.{option_map}
use Rattle.mpd_model.specs.declared.call.Activity.{Activity}
use Rattle.mpd_model.specs.declared.call.Activity.TheVariants.{Running, Blocked, Trapped}
use Rattle.mpd_model.specs.declared.call.Issue.{Issue}
use Rattle.mpd_model.specs.declared.call.Trap.{Trap}
use Rattle.mpd_model.specs.declared.call.Trap.TheVariants.{Assertion}
use Rattle.mpd_model.specs.declared.stmt.Simple.{Simple}
use Rattle.mpd_model.specs.declared.stmt.Simple.TheVariants as st
use Rattle.mpd_model.specs.script.Term.{Term, Value, Env, value_of, is_zero}
use Rattle.mpd_model.specs.script.Tree.{Tree, simple, branch, repeat, Block}
use Rattle.mpd_model.specs.steps.World.{RankWorld, Board}
use Rattle.mpd_model.specs.steps.Next.{Ran, trapped, printed, assigned, assignment, asserted, chosen, repeated, issued, send_issue, ssend_issue, recv_issue, isend_issue, issend_issue, irecv_issue, wait_issue, waitany_issue, barrier_issue, ran_simple, ran, env_of, local}
use Rattle.mpd_outcomes.specs.Future.{unprinted, quieted}

abbrev pub quiet : Ran → Ran
quiet done = record { rank = unprinted done.rank; call = done.call }

printed_quiet : (r : RankWorld) (ts : List (ℕ × Tree)) (v : Value) → unprinted (printed (unprinted r) ts v) ≡ unprinted (printed r ts v)
printed_quiet r ts (Ok v) = refl
printed_quiet r ts (Err t) = refl

assigned_quiet : (r : RankWorld) (ts : List (ℕ × Tree)) (w : Result (ℕ × ℤ) Trap) → unprinted (assigned (unprinted r) ts w) ≡ unprinted (assigned r ts w)
assigned_quiet r ts (Ok w) = refl
assigned_quiet r ts (Err t) = refl

asserted_quiet : (r : RankWorld) (ts : List (ℕ × Tree)) (v : Value) → unprinted (asserted (unprinted r) ts v) ≡ unprinted (asserted r ts v)
asserted_quiet r ts (Ok v) = either (is_zero v)
  where
    either : (b : Bool) → unprinted (cond b (trapped (unprinted r) Assertion) (record (unprinted r) { rest = ts })) ≡ unprinted (cond b (trapped r Assertion) (record r { rest = ts }))
    either true = refl
    either false = refl
asserted_quiet r ts (Err t) = refl

issued_quiet : (r : RankWorld) (ts : List (ℕ × Tree)) (number count : ℕ) (a : Result Issue Trap) → quiet (issued (unprinted r) ts number count a) ≡ quiet (issued r ts number count a)
issued_quiet r ts number count (Ok a) = refl
issued_quiet r ts number count (Err t) = refl

chosen_quiet : (r : RankWorld) (ts : List (ℕ × Tree)) (number : ℕ) (v : Value) (first second : Block) → unprinted (chosen (unprinted r) ts number v first second) ≡ unprinted (chosen r ts number v first second)
chosen_quiet r ts number (Ok v) first second = refl
chosen_quiet r ts number (Err t) first second = refl

repeated_quiet : (r : RankWorld) (ts : List (ℕ × Tree)) (number : ℕ) (v : Value) (c : Term) (body : Block) → unprinted (repeated (unprinted r) ts number v c body) ≡ unprinted (repeated r ts number v c body)
repeated_quiet r ts number (Ok v) c body = refl
repeated_quiet r ts number (Err t) c body = refl

by_alone : (r q : RankWorld) → unprinted r ≡ unprinted q → quiet (record { rank = r; call = None }) ≡ quiet (record { rank = q; call = None })
by_alone r q e = λ i. record { rank = e i; call = None }

simple_quiet : (env : Env) (r : RankWorld) (count number : ℕ) (s : Simple) (ts : List (ℕ × Tree)) → quiet (ran_simple env (unprinted r) count number s ts) ≡ quiet (ran_simple env r count number s ts)
simple_quiet env r count number (st.Print e) ts = by_alone (printed (unprinted r) ts (value_of e env)) (printed r ts (value_of e env)) (printed_quiet r ts (value_of e env))
simple_quiet env r count number (st.Assign s) ts = by_alone (assigned (unprinted r) ts (assignment s env)) (assigned r ts (assignment s env)) (assigned_quiet r ts (assignment s env))
simple_quiet env r count number (st.Assert e) ts = by_alone (asserted (unprinted r) ts (value_of e env)) (asserted r ts (value_of e env)) (asserted_quiet r ts (value_of e env))
simple_quiet env r count number (st.Send s) ts = issued_quiet r ts number count (send_issue s env)
simple_quiet env r count number (st.Ssend s) ts = issued_quiet r ts number count (ssend_issue s env)
simple_quiet env r count number (st.Recv s) ts = issued_quiet r ts number count (recv_issue s env)
simple_quiet env r count number (st.Isend s) ts = issued_quiet r ts number count (isend_issue s env)
simple_quiet env r count number (st.Issend s) ts = issued_quiet r ts number count (issend_issue s env)
simple_quiet env r count number (st.Irecv s) ts = issued_quiet r ts number count (irecv_issue s env)
simple_quiet env r count number (st.Wait t) ts = issued_quiet r ts number count (wait_issue t env)
simple_quiet env r count number (st.Waitany s) ts = issued_quiet r ts number count (waitany_issue s env)
simple_quiet env r count number st.Barrier ts = issued_quiet r ts number count barrier_issue

ran_quiet : (env : Env) (r : RankWorld) (count number : ℕ) (t : Tree) (ts : List (ℕ × Tree)) → quiet (ran env (unprinted r) count number t ts) ≡ quiet (ran env r count number t ts)
ran_quiet env r count number (simple s) ts = simple_quiet env r count number s ts
ran_quiet env r count number (branch c first second) ts =
    by_alone (chosen (unprinted r) ts number (value_of c env) first second) (chosen r ts number (value_of c env) first second) (chosen_quiet r ts number (value_of c env) first second)
ran_quiet env r count number (repeat c body) ts =
    by_alone (repeated (unprinted r) ts number (value_of c env) c body) (repeated r ts number (value_of c env) c body) (repeated_quiet r ts number (value_of c env) c body)

-- told by the parts of the rank
local_parts : (p n count : ℕ) (b : Board) (q : ℕ) (rest : List (ℕ × Tree)) (vars : List ℤ) (handles : List (Option ℕ)) (out : List ℤ) (a : Activity)
    → option_map quiet (local p n count (quieted b q (record { rest = rest; vars = vars; handles = handles; out = out; activity = a })))
    ≡ option_map quiet (local p n count (record { rest = rest; vars = vars; handles = handles; out = out; activity = a }))
local_parts p n count b q [] vars handles out Running = refl
local_parts p n count b q (t ∷ ts) vars handles out Running =
    ap (λ (x : Ran). Some x)
    (ran_quiet (env_of p n (record { rest = t ∷ ts; vars = vars; handles = handles; out = out; activity = Running })) (record { rest = t ∷ ts; vars = vars; handles = handles; out = out; activity = Running }) count t.0 t.1 ts)
local_parts p n count b q rest vars handles out Blocked = refl
local_parts p n count b q rest vars handles out (Trapped t) = refl

pub local_quiet : (p n count : ℕ) (b : Board) (q : ℕ) (o : Option RankWorld)
    → option_map quiet (option_and_then (local p n count) (option_map (quieted b q) o)) ≡ option_map quiet (option_and_then (local p n count) o)
local_quiet p n count b q None = refl
local_quiet p n count b q (Some r) = local_parts p n count b q r.rest r.vars r.handles r.out r.activity
