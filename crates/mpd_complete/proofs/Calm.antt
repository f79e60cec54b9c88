-- Worlds of a script without a waitany: no rank has one left, none was issued, and so no step of one is enabled.
use Rattle.std.proofs.Common.{◌≡◌, ◌⊎◌, ℕ, ℤ, zero, suc, ◌+◌, ◌++◌, Bool, true, false, cond, Option, Some, None, Result, Ok, Err, List, [], ◌∷◌, replicate, slice_get, slice_set, inl, inr, refl, sym, ap, subst, ◌∙◌}
use Rattle.mpd_meaning.proofs.listed.Listed.{if_some}
use Rattle.std.proofs.lemmas.Bool.{and_parts}
use Rattle.std.proofs.lemmas.Bool.Decides.{eqb_tells}
use Rattle.std.proofs.lemmas.Option.{slice_get-map}
use Rattle.std.specs.Option.{option_map}
use Rattle.mpd_model.specs.declared.step.CallId.{CallId}
use Rattle.mpd_model.specs.declared.step.Step.{Step}
use Rattle.mpd_model.specs.declared.step.Step.TheVariants.{Local, Match, Wake, WakeAny, Release}
use Rattle.mpd_model.specs.declared.call.Activity.{Activity}
use Rattle.mpd_model.specs.declared.call.Activity.TheVariants.{Running, Blocked, Trapped}
use Rattle.mpd_model.specs.declared.call.Call.{Call}
use Rattle.mpd_model.specs.declared.call.CallKind.{CallKind}
use Rattle.mpd_model.specs.declared.call.CallKind.TheVariants.{Send, Waitany}
use Rattle.mpd_model.specs.declared.call.Issue.{Issue}
use Rattle.mpd_model.specs.declared.call.Mode.{Mode}
use Rattle.mpd_model.specs.declared.call.Trap.{Trap}
use Rattle.mpd_model.specs.declared.call.Trap.TheVariants.{Assertion}
use Rattle.mpd_model.specs.declared.stmt.Simple.{Simple}
use Rattle.mpd_model.specs.declared.stmt.Simple.TheVariants as st
use Rattle.mpd_model.specs.script.Term.{Term, Value, Env, value_of, is_zero}
use Rattle.mpd_model.specs.script.Tree.{Tree, simple, branch, repeat, Block, no_more, then_more, block_of, trees, statements, statements_in, numbered}
use Rattle.mpd_model.specs.script.Program.{Program, IsTreeOf, IsBlockOf}
use Rattle.mpd_model.specs.steps.World.{World, RankWorld, start, start_rank, call_id, listed_calls, kind_of, kind_at, last_call}
use Rattle.mpd_model.specs.steps.Next.{Ran, trapped, printed, assigned, assignment, asserted, issued, chosen, repeated, ran_simple, ran, env_of, local_of, has_buffer, buffered_by, waits, request_handle, held_in, is_complete_some, can_wake_any, woken_any, going_on, next, fold}
use Rattle.mpd_complete.specs.CompleteLaws.{HasNoWaitany}
use Rattle.mpd_laws.proofs.ordered.Splits.{read_written, none_written, same_or_end}
use Rattle.mpd_laws.proofs.ordered.CallsInOrder.{joined_from}
use Rattle.mpd_meaning.proofs.moving.Moves.{issued_calls, joining, moved, calls_elsewhere}
use Rattle.mpd_complete.proofs.Steps.{IsWakeStep, local_step, wake_step, any_step, match_step, release_step}
use Rattle.mpd_complete.proofs.Issues.{is_any, issues_none}
use Rattle.mpd_complete.proofs.Invariants.{Sound, keeps, start_sound}
use Rattle.mpd_complete.proofs.Views.{NoAny}

-- ---- statements that are left

abbrev pub AreOld : List (ℕ × Tree) → Type 0
AreOld [] = Unit {0}
AreOld (t ∷ ts) = IsTreeOf 1 t.1 × AreOld ts

old_numbered : (n : ℕ) (ts : List Tree) → IsBlockOf 1 (block_of ts) → AreOld (numbered n ts)
old_numbered n [] h = tt
old_numbered n (t ∷ ts) h = (h.0, old_numbered (n + statements t) ts h.1)

old_block : (n : ℕ) (b : Block) → IsBlockOf 1 b → AreOld (numbered n (trees b))
old_block n no_more h = tt
old_block n (then_more t b) h = (h.0, old_block (n + statements t) b h.1)

old_joined : (xs ys : List (ℕ × Tree)) → AreOld xs → AreOld ys → AreOld (xs ++ ys)
old_joined [] ys h k = k
old_joined (x ∷ xs) ys h k = (h.0, old_joined xs ys h.1 k)

-- what a local step leaves: no waitany is left, and it issued none
record IsOld (done : Ran) : Type 0 where
  rest : AreOld done.rank.rest
  call : is_any (kind_of done.call) ≡ false

-- ---- the rest behind each statement

printed_rest : (r : RankWorld) (ts : List (ℕ × Tree)) (v : Value) → AreOld r.rest → AreOld ts → AreOld (printed r ts v).rest
printed_rest r ts (Ok v) all h = h
printed_rest r ts (Err t) all h = all

assigned_rest : (r : RankWorld) (ts : List (ℕ × Tree)) (w : Result (ℕ × ℤ) Trap) → AreOld r.rest → AreOld ts → AreOld (assigned r ts w).rest
assigned_rest r ts (Ok w) all h = h
assigned_rest r ts (Err t) all h = all

asserted_rest : (r : RankWorld) (ts : List (ℕ × Tree)) (v : Value) → AreOld r.rest → AreOld ts → AreOld (asserted r ts v).rest
asserted_rest r ts (Ok v) all h = either (is_zero v)
  where
    either : (b : Bool) → AreOld (cond b (trapped r Assertion) (record r { rest = ts })).rest
    either true = all
    either false = h
asserted_rest r ts (Err t) all h = all

issued_rest : (r : RankWorld) (ts : List (ℕ × Tree)) (number count : ℕ) (a : Result Issue Trap) → AreOld r.rest → AreOld ts → AreOld (issued r ts number count a).rank.rest
issued_rest r ts number count (Ok a) all h = h
issued_rest r ts number count (Err t) all h = all

simple_rest : (env : Env) (r : RankWorld) (count number : ℕ) (s : Simple) (ts : List (ℕ × Tree)) → AreOld r.rest → AreOld ts → AreOld (ran_simple env r count number s ts).rank.rest
simple_rest env r count number (st.Print e) ts all h = printed_rest r ts (value_of e env) all h
simple_rest env r count number (st.Assign s) ts all h = assigned_rest r ts (assignment s env) all h
simple_rest env r count number (st.Assert e) ts all h = asserted_rest r ts (value_of e env) all h
simple_rest env r count number st.Barrier ts all h = h
simple_rest env r count number s ts all h = search (issued_rest)

chosen_rest : (r : RankWorld) (ts : List (ℕ × Tree)) (number : ℕ) (v : Value) (first second : Block) → AreOld r.rest → IsBlockOf 1 first → IsBlockOf 1 second → AreOld ts
    → AreOld (chosen r ts number v first second).rest
chosen_rest r ts number (Ok v) first second all a b h = either (is_zero v)
  where
    either : (t : Bool) → AreOld (cond t (numbered (number + 1 + statements_in first) (trees second)) (numbered (number + 1) (trees first)) ++ ts)
    either true = old_joined (numbered (number + 1 + statements_in first) (trees second)) ts (old_block (number + 1 + statements_in first) second b) h
    either false = old_joined (numbered (number + 1) (trees first)) ts (old_block (number + 1) first a) h
chosen_rest r ts number (Err t) first second all a b h = all

repeated_rest : (r : RankWorld) (ts : List (ℕ × Tree)) (number : ℕ) (v : Value) (c : Term) (body : Block) → AreOld r.rest → IsBlockOf 1 body → AreOld ts → AreOld (repeated r ts number v c body).rest
repeated_rest r ts number (Ok v) c body all b h = either (is_zero v)
  where
    either : (t : Bool) → AreOld (cond t ts (numbered (number + 1) (trees body) ++ (number, repeat c body) ∷ ts))
    either true = h
    either false = old_joined (numbered (number + 1) (trees body)) ((number, repeat c body) ∷ ts) (old_block (number + 1) body b) (b, h)
repeated_rest r ts number (Err t) c body all b h = all

ran_old : (env : Env) (r : RankWorld) (count number : ℕ) (t : Tree) (ts : List (ℕ × Tree)) → AreOld r.rest → IsTreeOf 1 t → AreOld ts → IsOld (ran env r count number t ts)
ran_old env r count number (simple s) ts all old h = record { rest = simple_rest env r count number s ts all h; call = issues_none env r count number s ts old }
ran_old env r count number (branch c first second) ts all old h = record { rest = chosen_rest r ts number (value_of c env) first second all old.0 old.1 h; call = refl }
ran_old env r count number (repeat c body) ts all old h = record { rest = repeated_rest r ts number (value_of c env) c body all old h; call = refl }

local_of_old : (p n count : ℕ) (r : RankWorld) (a : Activity) (ts : List (ℕ × Tree)) (done : Ran) → AreOld r.rest → AreOld ts → local_of p n count r a ts ≡ Some done → IsOld done
local_of_old p n count r Running [] done all h e = absurd (cc)
local_of_old p n count r Running (t ∷ ts) done all h e =
    let same : ran (env_of p n r) r count t.0 t.1 ts ≡ done = cc in
    subst IsOld same (ran_old (env_of p n r) r count t.0 t.1 ts all h.0 h.1)
local_of_old p n count r Blocked ts done all h e = absurd (cc)
local_of_old p n count r (Trapped t) ts done all h e = absurd (cc)

-- ---- what every world of such a script keeps

pub record Calm (w : World) : Type 0 where
  pub sound : Sound w
  pub rest : (p : ℕ) (r : RankWorld) → slice_get w.ranks p ≡ Some r → AreOld r.rest
  pub calls : (c : CallId) → is_any (kind_at w.board c) ≡ false

-- what is read from a list of which one item was written
written_from : {A : Type 0} (xs : List A) (p q : ℕ) (a x : A) → slice_get (slice_set xs p a) q ≡ Some x → (a ≡ x) ⊎ (slice_get xs q ≡ Some x)
written_from [] p q a x e = inr e
written_from (y ∷ ys) zero zero a x e = inl (let is : a ≡ x = cc in is)
written_from (y ∷ ys) zero (suc q) a x e = inr e
written_from (y ∷ ys) (suc p) zero a x e = inr e
written_from (y ∷ ys) (suc p) (suc q) a x e = written_from ys p q a x e

any_here : (calls : List (List Call)) (p i : ℕ) (c : Call) → is_any (Some c.kind) ≡ false → is_any (kind_of (slice_get (listed_calls (slice_get calls p)) i)) ≡ false → (o : Option (List Call)) → slice_get calls p ≡ o
    → is_any (kind_of (slice_get (listed_calls (slice_get (issued_calls calls p (Some c)) p)) i)) ≡ false
any_here calls p i c new old None at = ap (λ (l : Option (List Call)). is_any (kind_of (slice_get (listed_calls l) i))) (none_written calls p (listed_calls (slice_get calls p) ++ c ∷ []) at)
any_here calls p i c new old (Some all) at =
    let ls : List Call = listed_calls (slice_get calls p) in
    ap (λ (l : Option (List Call)). is_any (kind_of (slice_get (listed_calls l) i))) (read_written calls p all (ls ++ c ∷ []) at)
    ∙ elim (same_or_end ls c i) [
      | inl same ↦ ap (λ (o : Option Call). is_any (kind_of o)) same.here ∙ old
      | inr end ↦ ap (λ (o : Option Call). is_any (kind_of o)) end.after ∙ new
    ]

any_moved : (w : World) (p : ℕ) (r : RankWorld) (o : Option Call) (m : Option CallId) → is_any (kind_of o) ≡ false → ((c : CallId) → is_any (kind_at w.board c) ≡ false)
    → (c : CallId) → is_any (kind_at (moved w p r o m).board c) ≡ false
any_moved w p r None m new old c = old c
any_moved w p r (Some d) m new old c =
    elim (eqb_tells c.rank p) [
      | inl same ↦
          subst (λ (q : ℕ). is_any (kind_of (slice_get (listed_calls (slice_get (issued_calls w.board.calls p (Some d)) q)) c.index)) ≡ false) (sym same.1)
          (any_here w.board.calls p c.index d new (old (call_id p c.index)) (slice_get w.board.calls p) refl)
      | inr off ↦ ap (λ (l : Option (List Call)). is_any (kind_of (slice_get (listed_calls l) c.index))) (calls_elsewhere w.board.calls p c.rank (Some d) off.1) ∙ old c
    ]

any_joined : (room : Bool) (k : CallKind) → is_any (Some (buffered_by room k)) ≡ is_any (Some k)
any_joined room (Send s) = refl
any_joined room k = refl

any_joining : (w : World) (p : ℕ) (o : Option Call) → is_any (kind_of o) ≡ false → is_any (kind_of (joining w.board p o)) ≡ false
any_joining w p None e = e
any_joining w p (Some c) e = any_joined (has_buffer w.board p) c.kind ∙ e

calm_moved : (w : World) (p : ℕ) (r : RankWorld) (o : Option Call) (m : Option CallId) → Calm w → Sound (moved w p r o m) → AreOld r.rest → is_any (kind_of o) ≡ false → Calm (moved w p r o m)
calm_moved w p r o m h sound rest call = record {
  sound = sound;
  rest = λ q x e. elim (written_from w.ranks p q r x e) [
    | inl is ↦ subst (λ (y : RankWorld). AreOld y.rest) is rest
    | inr at ↦ h.rest q x at
  ];
  calls = any_moved w p r o m call h.calls;
}

calm_wake : (w : World) (a : Step) (p : ℕ) (v : World) → IsWakeStep w a p v → Sound v → Calm w → Calm v
calm_wake w a p v b sound h =
    subst Calm b.is
    (calm_moved w p b.after None (Some (last_call w.board p)) h (subst Sound (sym b.is) sound) (subst AreOld (sym b.rest) (h.rest p b.rank b.at)) refl)

going_from : (o : Option RankWorld) (r : RankWorld) → option_map going_on o ≡ Some r → ((x : RankWorld) → o ≡ Some x → AreOld x.rest) → AreOld r.rest
going_from None r e all = absurd (cc)
going_from (Some x) r e all = let is : going_on x ≡ r = cc in subst (λ (y : RankWorld). AreOld y.rest) is (all x refl)

calm_by : (w : World) (a : Step) (v : World) → next w a ≡ Some v → Sound v → Calm w → Calm v
calm_by w (Local p) v e sound h =
    let a = local_step w p v e in
    let rest = h.rest p a.rank a.here in
    let old = local_of_old p _ _ a.rank a.rank.activity a.rank.rest a.ran rest rest a.from in
    subst Calm a.is (calm_moved w p a.ran.rank (joining w.board p a.ran.call) None h (subst Sound (sym a.is) sound) old.rest (any_joining w p a.ran.call old.call))
calm_by w (Match s r) v e sound h = let m = match_step w s r v e in subst Calm m.1 (record { sound = subst Sound (sym m.1) sound; rest = h.rest; calls = h.calls })
calm_by w (Wake p) v e sound h = calm_wake w (Wake p) p v (wake_step w p v e) sound h
calm_by w (WakeAny p i) v e sound h = calm_wake w (WakeAny p i) p v (any_step w p i v e) sound h
calm_by w Release v e sound h =
    let is = (release_step w v e).1 in
    subst Calm is (record {
      sound = subst Sound (sym is) sound;
      rest = λ p r at. going_from (slice_get w.ranks p) r (sym (slice_get-map going_on w.ranks p) ∙ at) (λ x here. h.rest p x here);
      calls = h.calls;
    })

pub stays_calm : (w : World) (a : Step) (v : World) → next w a ≡ Some v → Calm w → Calm v
stays_calm w a v e h = calm_by w a v e ((keeps w a v e).sound h.sound) h

pub fold_calm : (steps : List Step) (u w : World) → fold u steps ≡ Some w → Calm u → Calm w
fold_calm [] u w e h = let same : u ≡ w = cc in subst Calm same h
fold_calm (a ∷ steps) u w e h =
    let after = joined_from (λ v. fold v steps) (next u a) w e in
    fold_calm steps after.0 w after.2 (stays_calm u a after.0 after.1 h)

repeated_from : {A : Type 0} (n p : ℕ) (a x : A) → slice_get (replicate n a) p ≡ Some x → a ≡ x
repeated_from zero p a x e = absurd (cc)
repeated_from (suc n) zero a x e = cc
repeated_from (suc n) (suc p) a x e = repeated_from n p a x e

no_calls : (n p : ℕ) → slice_get (replicate {A = List Call} n []) p ≡ None ⊎ slice_get (replicate {A = List Call} n []) p ≡ Some []
no_calls zero p = inl refl
no_calls (suc n) zero = inr refl
no_calls (suc n) (suc p) = no_calls n p

pub start_calm : (s : Program) → HasNoWaitany s → (mode : Mode) → Calm (start s mode)
start_calm s none mode = record {
  sound = start_sound s mode;
  rest = λ p r at. subst (λ (x : RankWorld). AreOld x.rest) (repeated_from s.ranks p (start_rank s) r at) (old_numbered 0 s.body none);
  calls = λ c. elim (no_calls s.ranks c.rank) [
    | inl e ↦ ap (λ (l : Option (List Call)). is_any (kind_of (slice_get (listed_calls l) c.index))) e
    | inr e ↦ ap (λ (l : Option (List Call)). is_any (kind_of (slice_get (listed_calls l) c.index))) e
  ];
}

-- ---- no step of a waitany is enabled

asks_any : (k : Option CallKind) (w : World) (p i : ℕ) (r : Option RankWorld) → is_any k ≡ false → is_complete_some w.board (held_in p r (request_handle k i)) ≡ true → ⊥
asks_any (Some (Waitany a)) w p i r none e = absurd (cc)
asks_any k w p i None none e = absurd (cc)
asks_any k w p i (Some r) none e = absurd (cc)

pub calm_none : (w : World) → Calm w → NoAny w
calm_none w h (WakeAny p i) on =
    absurd (asks_any (kind_at w.board (last_call w.board p)) w p i (slice_get w.ranks p) (h.calls (last_call w.board p)) (and_parts (waits (slice_get w.ranks p)) _ (if_some (can_wake_any w p i) (woken_any w p i) on)).1)
calm_none w h a on = refl
