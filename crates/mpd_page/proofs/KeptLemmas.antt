-- What a step keeps of what ranks hold: how many cells there are, and what was printed.
use Rattle.std.proofs.Common.{◌≡◌, ℕ, zero, suc, ℤ, Bool, true, false, List, [], ◌∷◌, ◌++◌, length, set, slice_get, Option, Some, None, Result, Ok, Err, cond, refl, sym, ap, subst, ◌∙◌, append-nil, option_and_then}
use Rattle.std.specs.Option.{option_map}
use Rattle.std.proofs.lemmas.List.{length-set}
use Rattle.std.proofs.lemmas.Option.{slice_get-map}
use Rattle.mpd_model.specs.declared.step.Step.{Step}
use Rattle.mpd_model.specs.declared.step.Step.TheVariants.{Local, Match, Wake, WakeAny, Release}
use Rattle.mpd_model.specs.declared.stmt.Simple.{Simple}
use Rattle.mpd_model.specs.declared.stmt.Simple.TheVariants as st
use Rattle.mpd_model.specs.declared.call.Activity.{Activity}
use Rattle.mpd_model.specs.declared.call.Activity.TheVariants.{Running, Blocked, Trapped}
use Rattle.mpd_model.specs.declared.call.Trap.{Trap}
use Rattle.mpd_model.specs.declared.call.Issue.{Issue}
use Rattle.mpd_model.specs.script.Term.{Term, Value, Env, is_zero, value_of}
use Rattle.mpd_model.specs.script.Tree.{Tree, simple, branch, repeat, Block}
use Rattle.mpd_model.specs.steps.World.{RankWorld, World, calls_of}
use Rattle.mpd_model.specs.steps.Next as n
use Rattle.mpd_model.specs.steps.Next.{next, Ran}
use Rattle.mpd_page.specs.Changes.{vars_of, handles_of, out_of}

-- as many variables and handles, and what was printed before
pub record Kept (one other : Option RankWorld) : Type 0 where
  pub vars : length (vars_of one) ≡ length (vars_of other)
  pub handles : length (handles_of one) ≡ length (handles_of other)
  pub more : List ℤ
  pub out : out_of other ≡ out_of one ++ more

pub same : (o : Option RankWorld) → Kept o o
same o = record { vars = refl; handles = refl; more = []; out = sym (append-nil (out_of o)) }

-- ---- one rank

-- with other cells, of which there are as many, and nothing printed
cells : (r q : RankWorld) → length q.vars ≡ length r.vars → length q.handles ≡ length r.handles → q.out ≡ r.out → Kept (Some r) (Some q)
cells r q h k e = record { vars = sym h; handles = sym k; more = []; out = e ∙ sym (append-nil r.out) }

alike : (r q : RankWorld) → q.vars ≡ r.vars → q.handles ≡ r.handles → q.out ≡ r.out → Kept (Some r) (Some q)
alike r q h k e = cells r q (ap length h) (ap length k) e

printed : (r : RankWorld) (ts : List (ℕ × Tree)) (v : Value) → Kept (Some r) (Some (n.printed r ts v))
printed r ts (Ok v) = record { vars = refl; handles = refl; more = v ∷ []; out = refl }
printed r ts (Err t) = alike r (n.trapped r t) refl refl refl

assigned : (r : RankWorld) (ts : List (ℕ × Tree)) (w : Result (ℕ × ℤ) Trap) → Kept (Some r) (Some (n.assigned r ts w))
assigned r ts (Ok w) = cells r (n.assigned r ts (Ok w)) (length-set r.vars w.0 w.1) refl refl
assigned r ts (Err t) = alike r (n.trapped r t) refl refl refl

asserted_by : (r : RankWorld) (ts : List (ℕ × Tree)) (b : Bool) (t : Trap) → Kept (Some r) (Some (cond b (n.trapped r t) (record r { rest = ts })))
asserted_by r ts true t = alike r (n.trapped r t) refl refl refl
asserted_by r ts false t = alike r (record r { rest = ts }) refl refl refl

asserted : (r : RankWorld) (ts : List (ℕ × Tree)) (v : Value) → Kept (Some r) (Some (n.asserted r ts v))
asserted r ts (Ok v) = asserted_by r ts (is_zero v) _
asserted r ts (Err t) = alike r (n.trapped r t) refl refl refl

requested : (h call : Option ℕ) (handles : List (Option ℕ)) → length (n.requested h call handles) ≡ length handles
requested None call handles = refl
requested (Some h) call handles = length-set handles h call

issued : (r : RankWorld) (ts : List (ℕ × Tree)) (number count : ℕ) (i : Result Issue Trap) → Kept (Some r) (Some (n.issued r ts number count i).rank)
issued r ts number count (Ok a) = cells r (n.issued r ts number count (Ok a)).rank refl (requested a.handle (Some count) r.handles) refl
issued r ts number count (Err t) = alike r (n.trapped r t) refl refl refl

chosen : (r : RankWorld) (ts : List (ℕ × Tree)) (number : ℕ) (v : Value) (first second : Block) → Kept (Some r) (Some (n.chosen r ts number v first second))
chosen r ts number (Ok v) first second = alike r (n.chosen r ts number (Ok v) first second) refl refl refl
chosen r ts number (Err t) first second = alike r (n.trapped r t) refl refl refl

repeated : (r : RankWorld) (ts : List (ℕ × Tree)) (number : ℕ) (v : Value) (c : Term) (body : Block) → Kept (Some r) (Some (n.repeated r ts number v c body))
repeated r ts number (Ok v) c body = alike r (n.repeated r ts number (Ok v) c body) refl refl refl
repeated r ts number (Err t) c body = alike r (n.trapped r t) refl refl refl

ran_simple : (env : Env) (r : RankWorld) (count number : ℕ) (s : Simple) (ts : List (ℕ × Tree)) → Kept (Some r) (Some (n.ran_simple env r count number s ts).rank)
ran_simple env r count number (st.Print e) ts = printed r ts (value_of e env)
ran_simple env r count number (st.Assign s) ts = assigned r ts (n.assignment s env)
ran_simple env r count number (st.Assert e) ts = asserted r ts (value_of e env)
ran_simple env r count number (st.Send s) ts = issued r ts number count (n.send_issue s env)
ran_simple env r count number (st.Ssend s) ts = issued r ts number count (n.ssend_issue s env)
ran_simple env r count number (st.Recv s) ts = issued r ts number count (n.recv_issue s env)
ran_simple env r count number (st.Isend s) ts = issued r ts number count (n.isend_issue s env)
ran_simple env r count number (st.Issend s) ts = issued r ts number count (n.issend_issue s env)
ran_simple env r count number (st.Irecv s) ts = issued r ts number count (n.irecv_issue s env)
ran_simple env r count number (st.Wait t) ts = issued r ts number count (n.wait_issue t env)
ran_simple env r count number (st.Waitany s) ts = issued r ts number count (n.waitany_issue s env)
ran_simple env r count number st.Barrier ts = issued r ts number count n.barrier_issue

ran : (env : Env) (r : RankWorld) (count number : ℕ) (t : Tree) (ts : List (ℕ × Tree)) → Kept (Some r) (Some (n.ran env r count number t ts).rank)
ran env r count number (simple s) ts = ran_simple env r count number s ts
ran env r count number (branch c first second) ts = chosen r ts number (value_of c env) first second
ran env r count number (repeat c body) ts = repeated r ts number (value_of c env) c body

-- the local step of a rank
local_of : (p size count : ℕ) (r : RankWorld) (a : Activity) (ts : List (ℕ × Tree)) (done : Ran) → n.local_of p size count r a ts ≡ Some done → Kept (Some r) (Some done.rank)
local_of p size count r Running [] done h = absurd (cc)
local_of p size count r Running (t ∷ ts) done h = subst (λ (d : Option Ran). Kept (Some r) (option_map (λ (x : Ran). x.rank) d)) h (ran (n.env_of p size r) r count t.0 t.1 ts)
local_of p size count r Blocked ts done h = absurd (cc)
local_of p size count r (Trapped t) ts done h = absurd (cc)

-- ---- one rank of many

-- a rank that is put in the place of another
pub at_set : (rs : List RankWorld) (q : ℕ) (r x : RankWorld) → slice_get rs q ≡ Some r → Kept (Some r) (Some x) → (p : ℕ) → Kept (slice_get rs p) (slice_get (set rs q x) p)
at_set [] q r x h k p = absurd (cc)
at_set (y ∷ rs) zero r x h k zero = subst (λ o. Kept o (Some x)) (sym h) k
at_set (y ∷ rs) zero r x h k (suc p) = same (slice_get rs p)
at_set (y ∷ rs) (suc q) r x h k zero = same (Some y)
at_set (y ∷ rs) (suc q) r x h k (suc p) = at_set rs q r x h k p

write_cells : (ws : List (ℕ × ℤ)) (vars : List ℤ) → length (n.write_cells ws vars) ≡ length vars
write_cells [] vars = refl
write_cells (w ∷ ws) vars = write_cells ws (set vars w.0 w.1) ∙ length-set vars w.0 w.1

put_at : (rs : List RankWorld) (q : ℕ) (writes : List (ℕ × ℤ)) (handle : Option ℕ) (o : Option RankWorld) → slice_get rs q ≡ o → (p : ℕ) → Kept (slice_get rs p) (slice_get (n.put_at rs q o (n.woken_rank writes handle)) p)
put_at rs q writes handle None h p = same (slice_get rs p)
put_at rs q writes handle (Some r) h p = at_set rs q r (n.woken_rank writes handle r) h (cells r (n.woken_rank writes handle r) (write_cells writes r.vars) (requested handle None r.handles) refl) p

going_on : (o : Option RankWorld) → Kept o (option_map n.going_on o)
going_on None = same None
going_on (Some r) = alike r (n.going_on r) refl refl refl

-- ---- a step
inside : (w v : World) → Some w ≡ Some v → w ≡ v
inside w v h = cc

by_local : (w v : World) (q : ℕ) (rank : Option RankWorld) → slice_get w.ranks q ≡ rank → option_map (n.stepped w q) (option_and_then (n.local q (length w.ranks) (length (calls_of w.board q))) rank) ≡ Some v
    → (p : ℕ) → Kept (slice_get w.ranks p) (slice_get v.ranks p)
by_local w v q None at h p = absurd (cc)
by_local w v q (Some r) at h p = by_ran (n.local q (length w.ranks) (length (calls_of w.board q)) r) refl h
  where
    by_ran : (o : Option Ran) → n.local q (length w.ranks) (length (calls_of w.board q)) r ≡ o → option_map (n.stepped w q) o ≡ Some v → Kept (slice_get w.ranks p) (slice_get v.ranks p)
    by_ran None k h = absurd (cc)
    by_ran (Some done) k h =
        subst (λ (u : World). Kept (slice_get w.ranks p) (slice_get u.ranks p)) (inside (n.stepped w q done) v h)
        (at_set w.ranks q r done.rank at (local_of q (length w.ranks) (length (calls_of w.board q)) r r.activity r.rest done k) p)

by_test : (b : Bool) (w u v : World) → cond b (Some u) None ≡ Some v → ((p : ℕ) → Kept (slice_get w.ranks p) (slice_get u.ranks p)) → (p : ℕ) → Kept (slice_get w.ranks p) (slice_get v.ranks p)
by_test true w u v h k p = subst (λ (x : World). Kept (slice_get w.ranks p) (slice_get x.ranks p)) (inside u v h) (k p)
by_test false w u v h k p = absurd (cc)

-- every rank is kept so by a step
pub ranks_kept : (w v : World) (a : Step) → next w a ≡ Some v → (p : ℕ) → Kept (slice_get w.ranks p) (slice_get v.ranks p)
ranks_kept w v (Local q) h p = by_local w v q (slice_get w.ranks q) refl h p
ranks_kept w v (Match s r) h p = by_test _ w _ v h (λ q. same (slice_get w.ranks q)) p
ranks_kept w v (Wake q) h p = by_test _ w _ v h (put_at w.ranks q (n.wake_writes w.board q) (n.wake_clears w.board q) (slice_get w.ranks q) refl) p
ranks_kept w v (WakeAny q i) h p = by_test _ w _ v h (put_at w.ranks q (n.any_writes w q i) (n.any_handle w q i) (slice_get w.ranks q) refl) p
ranks_kept w v Release h p = by_test _ w _ v h (λ q. subst (λ o. Kept (slice_get w.ranks q) o) (sym (slice_get-map n.going_on w.ranks q)) (going_on (slice_get w.ranks q))) p
