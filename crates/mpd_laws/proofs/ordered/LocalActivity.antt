-- What a local step leaves its rank doing: it is blocked exactly where the step issued a call that blocks.
use Rattle.std.proofs.Common.{◌≡◌, ℕ, ℤ, Bool, true, false, cond, Option, Some, None, Result, Ok, Err, List, [], ◌∷◌, refl, ap, subst}
use Rattle.mpd_model.specs.declared.call.Activity.{Activity}
use Rattle.mpd_model.specs.declared.call.Activity.TheVariants.{Running, Blocked, Trapped}
use Rattle.mpd_model.specs.declared.call.Call.{Call}
use Rattle.mpd_model.specs.declared.call.Issue.{Issue}
use Rattle.mpd_model.specs.declared.call.Trap.{Trap}
use Rattle.mpd_model.specs.declared.call.Trap.TheVariants.{Assertion}
use Rattle.mpd_model.specs.declared.stmt.Simple.{Simple}
use Rattle.mpd_model.specs.declared.stmt.Simple.TheVariants as st
use Rattle.mpd_model.specs.script.Term.{Term, Value, Env, value_of, is_zero}
use Rattle.mpd_model.specs.script.Tree.{Tree, simple, branch, repeat, Block}
use Rattle.mpd_model.specs.steps.World.{RankWorld}
use Rattle.mpd_model.specs.steps.Next.{Ran, trapped, printed, assigned, asserted, chosen, repeated, issued, ran_simple, ran, env_of, local_of, local, blocks, is_blocked}

abbrev pub call_blocks : Option Call → Bool
call_blocks None = false
call_blocks (Some c) = blocks c.kind

-- the rank is blocked exactly where the step issued a call that blocks
abbrev pub BlocksOn : Ran → Type 0
BlocksOn done = is_blocked done.rank.activity ≡ call_blocks done.call

issued_blocks : (r : RankWorld) (ts : List (ℕ × Tree)) (number count : ℕ) (a : Result Issue Trap) → BlocksOn (issued r ts number count a)
issued_blocks r ts number count (Ok a) = either (blocks a.kind)
  where
    either : (b : Bool) → is_blocked (cond b Blocked Running) ≡ b
    either true = refl
    either false = refl
issued_blocks r ts number count (Err t) = refl

printed_runs : (r : RankWorld) (ts : List (ℕ × Tree)) (v : Value) → is_blocked r.activity ≡ false → is_blocked (printed r ts v).activity ≡ false
printed_runs r ts (Ok v) e = e
printed_runs r ts (Err t) e = refl

assigned_runs : (r : RankWorld) (ts : List (ℕ × Tree)) (w : Result (ℕ × ℤ) Trap) → is_blocked r.activity ≡ false → is_blocked (assigned r ts w).activity ≡ false
assigned_runs r ts (Ok w) e = e
assigned_runs r ts (Err t) e = refl

asserted_runs : (r : RankWorld) (ts : List (ℕ × Tree)) (v : Value) → is_blocked r.activity ≡ false → is_blocked (asserted r ts v).activity ≡ false
asserted_runs r ts (Ok v) e = either (is_zero v)
  where
    either : (b : Bool) → is_blocked (cond b (trapped r Assertion) (record r { rest = ts })).activity ≡ false
    either true = refl
    either false = e
asserted_runs r ts (Err t) e = refl

simple_blocks : (env : Env) (r : RankWorld) (count number : ℕ) (s : Simple) (ts : List (ℕ × Tree)) → is_blocked r.activity ≡ false → BlocksOn (ran_simple env r count number s ts)
simple_blocks env r count number (st.Print v) ts e = printed_runs r ts (value_of v env) e
simple_blocks env r count number s ts e = search (printed_runs, assigned_runs, asserted_runs, issued_blocks)

chosen_runs : (r : RankWorld) (ts : List (ℕ × Tree)) (number : ℕ) (v : Value) (first second : Block) → is_blocked r.activity ≡ false → is_blocked (chosen r ts number v first second).activity ≡ false
chosen_runs r ts number (Ok v) first second e = e
chosen_runs r ts number (Err t) first second e = refl

repeated_runs : (r : RankWorld) (ts : List (ℕ × Tree)) (number : ℕ) (v : Value) (c : Term) (body : Block) → is_blocked r.activity ≡ false → is_blocked (repeated r ts number v c body).activity ≡ false
repeated_runs r ts number (Ok v) c body e = e
repeated_runs r ts number (Err t) c body e = refl

ran_blocks : (env : Env) (r : RankWorld) (count number : ℕ) (t : Tree) (ts : List (ℕ × Tree)) → is_blocked r.activity ≡ false → BlocksOn (ran env r count number t ts)
ran_blocks env r count number (simple s) ts e = simple_blocks env r count number s ts e
ran_blocks env r count number (branch c first second) ts e = chosen_runs r ts number (value_of c env) first second e
ran_blocks env r count number (repeat c body) ts e = repeated_runs r ts number (value_of c env) c body e

local_of_blocks : (p n count : ℕ) (r : RankWorld) (a : Activity) (ts : List (ℕ × Tree)) (done : Ran) → r.activity ≡ a → local_of p n count r a ts ≡ Some done → BlocksOn done × (is_blocked a ≡ false)
local_of_blocks p n count r Running [] done is e = absurd (cc)
local_of_blocks p n count r Running (t ∷ ts) done is e =
    let same : ran (env_of p n r) r count t.0 t.1 ts ≡ done = cc in
    (subst BlocksOn same (ran_blocks (env_of p n r) r count t.0 t.1 ts (ap is_blocked is)), refl)
local_of_blocks p n count r Blocked ts done is e = absurd (cc)
local_of_blocks p n count r (Trapped t) ts done is e = absurd (cc)

pub local_blocks : (p n count : ℕ) (r : RankWorld) (done : Ran) → local p n count r ≡ Some done → BlocksOn done × (is_blocked r.activity ≡ false)
local_blocks p n count r done e = local_of_blocks p n count r r.activity r.rest done refl e
