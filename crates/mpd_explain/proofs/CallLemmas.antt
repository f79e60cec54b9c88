-- The call that a local step issues names the statement that its rank was at.
use Rattle.std.proofs.Common.{◌≡◌, ℕ, List, [], ◌∷◌, length, Option, Some, None, IfSome, Result, Ok, Err, slice_get, refl, subst}
use Rattle.std.specs.Option.{option_and_then}
use Rattle.mpd_model.specs.declared.call.Activity.{Activity}
use Rattle.mpd_model.specs.declared.call.Activity.TheVariants.{Running, Blocked, Trapped}
use Rattle.mpd_model.specs.declared.call.Call.{Call}
use Rattle.mpd_model.specs.declared.call.Issue.{Issue}
use Rattle.mpd_model.specs.declared.call.Trap.{Trap}
use Rattle.mpd_model.specs.declared.stmt.Simple.{Simple}
use Rattle.mpd_model.specs.declared.stmt.Simple.TheVariants as st
use Rattle.mpd_model.specs.script.Term.{Env}
use Rattle.mpd_model.specs.script.Tree.{Tree, simple, branch, repeat}
use Rattle.mpd_model.specs.steps.World.{RankWorld, calls_of}
use Rattle.mpd_model.specs.steps.Next.{Ran, issued, ran_simple, ran, local_of, local, barrier_issue}
use Rattle.mpd_model.specs.steps.Outcomes.{first_number}
use Rattle.mpd_explain.specs.CallLaws.{next_number, CallsNameTheirStatements}

abbrev Names : ℕ → Ran → Type 0
Names number done = IfSome done.call (λ (c : Call). Some number ≡ Some c.statement)

issued_names : (r : RankWorld) (ts : List (ℕ × Tree)) (number count : ℕ) (i : Result Issue Trap) → Names number (issued r ts number count i)
issued_names r ts number count (Ok a) = refl
issued_names r ts number count (Err t) = tt

simple_names : (env : Env) (r : RankWorld) (count number : ℕ) (s : Simple) (ts : List (ℕ × Tree)) → Names number (ran_simple env r count number s ts)
simple_names env r count number (st.Print e) ts = tt
simple_names env r count number (st.Assign s) ts = tt
simple_names env r count number (st.Assert e) ts = tt
simple_names env r count number (st.Send s) ts = issued_names r ts number count _
simple_names env r count number (st.Ssend s) ts = issued_names r ts number count _
simple_names env r count number (st.Recv s) ts = issued_names r ts number count _
simple_names env r count number (st.Isend s) ts = issued_names r ts number count _
simple_names env r count number (st.Issend s) ts = issued_names r ts number count _
simple_names env r count number (st.Irecv s) ts = issued_names r ts number count _
simple_names env r count number (st.Wait t) ts = issued_names r ts number count _
simple_names env r count number (st.Waitany s) ts = issued_names r ts number count _
simple_names env r count number st.Barrier ts = issued_names r ts number count barrier_issue

ran_names : (env : Env) (r : RankWorld) (count number : ℕ) (tree : Tree) (ts : List (ℕ × Tree)) → Names number (ran env r count number tree ts)
ran_names env r count number (simple s) ts = simple_names env r count number s ts
ran_names env r count number (branch c first second) ts = tt
ran_names env r count number (repeat c body) ts = tt

some_is : (x y : Ran) → Some x ≡ Some y → x ≡ y
some_is x y e = cc

left_names : (p n count : ℕ) (r : RankWorld) (a : Activity) (rest : List (ℕ × Tree)) (done : Ran) → local_of p n count r a rest ≡ Some done → IfSome done.call (λ (c : Call). first_number rest ≡ Some c.statement)
left_names p n count r Running [] done e = cc
left_names p n count r Running (t ∷ ts) done e = subst (λ (d : Ran). Names t.0 d) (some_is _ done e) (ran_names _ r count t.0 t.1 ts)
left_names p n count r Blocked rest done e = cc
left_names p n count r (Trapped t) rest done e = cc

rank_names : (p n count : ℕ) (o : Option RankWorld) (done : Ran) → option_and_then (local p n count) o ≡ Some done → IfSome done.call (λ (c : Call). next_number o ≡ Some c.statement)
rank_names p n count None done e = cc
rank_names p n count (Some r) done e = left_names p n count r r.activity r.rest done e

pub calls_name : CallsNameTheirStatements
calls_name w p done e = rank_names p (length w.ranks) (length (calls_of w.board p)) (slice_get w.ranks p) done e
