-- A local step or a wake leads from worlds that are alike to worlds that are alike.
use Rattle.std.proofs.Common.{◌≡◌, ◌≢◌, ◌⊎◌, ℕ, zero, suc, ◌+◌, ◌-◌, true, false, cond, ◌&&◌, Option, Some, None, is_some, is_none, option_and_then, List, [], ◌∷◌, ◌++◌, length, slice_get, inl, inr, refl, sym, ap, subst, ◌∙◌, arith, length-append, append-nil, ℤ, Bool}
use Rattle.std.specs.Prelude.{slice_index_or}
use Rattle.std.proofs.lemmas.Bool.Decides.{eqb_tells}
use Rattle.std.proofs.lemmas.List.{length-set}
use Rattle.std.specs.Option.{option_map}
use Rattle.mpd_laws.proofs.ordered.Splits.{mapped_from, read_written, others_kept, end_read}
use Rattle.mpd_laws.proofs.ordered.Eligible.{clash}
use Rattle.mpd_model.specs.declared.step.CallId.{CallId}
use Rattle.mpd_model.specs.declared.call.Activity.{Activity}
use Rattle.mpd_model.specs.declared.call.Activity.TheVariants.{Running, Blocked, Trapped}
use Rattle.mpd_model.specs.script.Tree.{Tree}
use Rattle.mpd_model.specs.declared.call.Call.{Call}
use Rattle.mpd_model.specs.declared.call.CallKind.{CallKind}
use Rattle.mpd_model.specs.steps.World.{World, RankWorld, call_id, listed_calls, calls_of, call_at, kind_of, kind_at, partner, is_message_kind, message_of, awaited_by, awaited, last_call, receives}
use Rattle.mpd_model.specs.steps.Next.{is_blocked, waits, writes_of, held_in}
use Rattle.mpd_model.specs.steps.Outcomes.{statement_of}
use Rattle.mpd_outcomes.specs.Future.{open_call, still_asked, seen, last_statement, quieted, live_vars, overwritten}
use Rattle.mpd_meaning.proofs.moving.Moves.{issued_calls, moved, calls_elsewhere, kind_kept, partner_formed}
use Rattle.mpd_outcomes.proofs.Alike.{IsHeld, IsWaitedFor, Due, Alike, Tidy, is_send}
use Rattle.mpd_outcomes.proofs.Asked.{waits_quiet}

-- ---- lists

abbrev more : Option Call → List Call
more None = []
more (Some c) = c ∷ []

end_none : {A : Type 0} (xs : List A) → slice_get xs (length xs) ≡ None
end_none [] = refl
end_none (x ∷ xs) = end_none xs

read_before : {A : Type 0} (xs : List A) (x : A) (i : ℕ) → i ≢ length xs → slice_get (xs ++ x ∷ []) i ≡ slice_get xs i
read_before [] x zero ne = absurd (ne refl)
read_before [] x (suc i) ne = refl
read_before (y ∷ ys) x zero ne = refl
read_before (y ∷ ys) x (suc i) ne = read_before ys x i (λ e. ne (ap (λ (k : ℕ). suc k) e))

-- ---- the call that a step issues

abbrev pub IsNew : World → ℕ → Option Call → CallId → Type 0
IsNew w p o c = (is_some o ≡ true) × (c.rank ≡ p) × (c.index ≡ length (calls_of w.board p))

pub new_or_not : (w : World) (p : ℕ) (o : Option Call) (c : CallId) → IsNew w p o c ⊎ (IsNew w p o c → ⊥)
new_or_not w p None c = inr (λ n. let e : false ≡ true = n.0 in cc)
new_or_not w p (Some d) c =
    elim (eqb_tells c.rank p) [
      | inl at ↦
          elim (eqb_tells c.index (length (calls_of w.board p))) [
            | inl is ↦ inl (refl, at.1, is.1)
            | inr off ↦ inr (λ n. off.1 n.2)
          ]
      | inr off ↦ inr (λ n. off.1 n.1)
    ]

-- what a rank goes on with
pub record Fits (w : World) (p : ℕ) (r : RankWorld) (o : Option Call) : Type 0 where
  pub old : RankWorld
  pub here : slice_get w.ranks p ≡ Some old
  pub calls : List Call
  pub listed : slice_get w.board.calls p ≡ Some calls
  -- its handles hold what they held, or the new call, which is a send or a receive
  pub handles : (h i : ℕ) → slice_index_or r.handles h None ≡ Some i → IsHeld w (call_id p i) ⊎ (IsNew w p o (call_id p i) × (is_message_kind (kind_of o) ≡ true))
  -- it is blocked on the new call alone, which is for itself or for what a handle held
  pub issued : is_blocked r.activity ≡ true → is_some o ≡ true
  pub target : is_some o ≡ true → (i : ℕ) → awaited_by (call_id p (length (calls_of w.board p))) (kind_of o) ≡ Some (call_id p i) → IsHeld w (call_id p i) ⊎ IsNew w p o (call_id p i)

-- only where a rank is blocked it matters what will be written over
live_any : (c d : List ℕ) (a : Activity) (rest : List (ℕ × Tree)) (vars : List ℤ) → is_blocked a ≡ false → live_vars c a rest vars ≡ live_vars d a rest vars
live_any c d Running [] vars e = refl
live_any c d Running (t ∷ ts) vars e = refl
live_any c d Blocked rest vars e = absurd (cc)
live_any c d (Trapped t) [] vars e = refl
live_any c d (Trapped t) (u ∷ ts) vars e = refl

module _ (w : World) (p : ℕ) (r : RankWorld) (o : Option Call) (m : Option CallId) (f : Fits w p r o) (tidy : Tidy w) where
  calls_moved : calls_of (moved w p r o m).board p ≡ calls_of w.board p ++ more o
  calls_moved = by_call o
    where
      by_call : (k : Option Call) → listed_calls (slice_get (issued_calls w.board.calls p k) p) ≡ calls_of w.board p ++ more k
      by_call None = sym (append-nil (calls_of w.board p))
      by_call (Some c) = ap listed_calls (read_written w.board.calls p f.calls (calls_of w.board p ++ c ∷ []) f.listed)

  calls_apart : (q : ℕ) → q ≢ p → calls_of (moved w p r o m).board q ≡ calls_of w.board q
  calls_apart q ne = ap listed_calls (calls_elsewhere w.board.calls p q o ne)

  call_new : is_some o ≡ true → call_at (moved w p r o m).board (call_id p (length (calls_of w.board p))) ≡ o
  call_new some = ap (λ (l : List Call). slice_get l (length (calls_of w.board p))) calls_moved ∙ by_call o some
    where
      by_call : (k : Option Call) → is_some k ≡ true → slice_get (calls_of w.board p ++ more k) (length (calls_of w.board p)) ≡ k
      by_call None e = absurd (cc)
      by_call (Some c) e = end_read (calls_of w.board p) c

  kind_new : is_some o ≡ true → kind_at (moved w p r o m).board (call_id p (length (calls_of w.board p))) ≡ kind_of o
  kind_new some = ap kind_of (call_new some)

  call_was_here : (i : ℕ) → (IsNew w p o (call_id p i) → ⊥) → call_at (moved w p r o m).board (call_id p i) ≡ call_at w.board (call_id p i)
  call_was_here i old = ap (λ (l : List Call). slice_get l i) calls_moved ∙ by_call o old
    where
      by_call : (k : Option Call) → (IsNew w p k (call_id p i) → ⊥) → slice_get (calls_of w.board p ++ more k) i ≡ slice_get (calls_of w.board p) i
      by_call None e = ap (λ (l : List Call). slice_get l i) (append-nil (calls_of w.board p))
      by_call (Some c) e = read_before (calls_of w.board p) c i (λ is. e (refl, refl, is))

  call_was : (c : CallId) → (IsNew w p o c → ⊥) → call_at (moved w p r o m).board c ≡ call_at w.board c
  call_was c old =
      elim (eqb_tells c.rank p) [
        | inl at ↦
            subst (λ (q : ℕ). (IsNew w p o (call_id q c.index) → ⊥) → call_at (moved w p r o m).board (call_id q c.index) ≡ call_at w.board (call_id q c.index)) (sym at.1) (call_was_here c.index) old
        | inr off ↦ ap (λ (l : List Call). slice_get l c.index) (calls_apart c.rank off.1)
      ]

  kind_was : (c : CallId) → (IsNew w p o c → ⊥) → kind_at (moved w p r o m).board c ≡ kind_at w.board c
  kind_was c old = ap kind_of (call_was c old)

  new_is : (c : CallId) → IsNew w p o c → c ≡ call_id p (length (calls_of w.board p))
  new_is c n = λ j. call_id (n.1 j) (n.2 j)

  new_unpaired : (c : CallId) → IsNew w p o c → partner (moved w p r o m).board.sets c ≡ None
  new_unpaired c n = partner_formed w.board.sets m c ∙ by_partner (partner w.board.sets c) refl
    where
      by_partner : (k : Option CallId) → partner w.board.sets c ≡ k → partner w.board.sets c ≡ None
      by_partner None e = e
      by_partner (Some d) e =
          let none : kind_at w.board c ≡ None = ap (kind_at w.board) (new_is c n) ∙ ap kind_of (end_none (calls_of w.board p)) in
          absurd (clash (sym (ap (λ (k : Option CallKind). is_some k) none) ∙ (tidy.known c d e).0) refl)

  call_of_new : (c : CallId) → IsNew w p o c → call_at (moved w p r o m).board c ≡ o
  call_of_new c n = ap (call_at (moved w p r o m).board) (new_is c n) ∙ call_new n.0

  kind_of_new : (c : CallId) → IsNew w p o c → kind_at (moved w p r o m).board c ≡ kind_of o
  kind_of_new c n = ap kind_of (call_of_new c n)

  -- ---- whether it is open, and what is seen of it

  pub open_new : (c : CallId) → IsNew w p o c → open_call (moved w p r o m).board c ≡ cond (is_message_kind (kind_of o) && true) o None
  open_new c n = λ j. cond (is_message_kind (kind_of_new c n j) && is_none (new_unpaired c n j)) (call_of_new c n j) None

  pub open_was : (c : CallId) → (IsNew w p o c → ⊥) → open_call (moved w p r o m).board c ≡ open_call w.board c
  open_was c old = λ j. cond (is_message_kind (kind_was c old j) && is_none (partner_formed w.board.sets m c j)) (call_was c old j) None

  pub seen_new : (c : CallId) → IsNew w p o c → seen (moved w p r o m).board c ≡ record { kind = kind_of o; paired = false; writes = writes_of (kind_of o) None }
  seen_new c n = λ j. record {
    kind = still_asked (is_some (new_unpaired c n j)) (kind_of_new c n j);
    paired = is_some (new_unpaired c n j);
    writes = writes_of (kind_of_new c n j) (option_and_then (λ s. message_of s (kind_at (moved w p r o m).board s)) (new_unpaired c n j));
  }

  message_was : (c : CallId) (k : Option CallId) → partner w.board.sets c ≡ k → option_and_then (λ s. message_of s (kind_at (moved w p r o m).board s)) k ≡ option_and_then (λ s. message_of s (kind_at w.board s)) k
  message_was c None e = refl
  message_was c (Some s) e = ap (message_of s) (kind_kept w p r o m s (tidy.known c s e).1)

  pub seen_was : (c : CallId) → (IsNew w p o c → ⊥) → seen (moved w p r o m).board c ≡ seen w.board c
  seen_was c old =
      (λ j. record {
        kind = still_asked (is_some (partner_formed w.board.sets m c j)) (kind_was c old j);
        paired = is_some (partner_formed w.board.sets m c j);
        writes = writes_of (kind_was c old j) (option_and_then (λ s. message_of s (kind_at (moved w p r o m).board s)) (partner_formed w.board.sets m c j));
      })
      ∙ (λ j. record {
        kind = still_asked (is_some (partner w.board.sets c)) (kind_at w.board c);
        paired = is_some (partner w.board.sets c);
        writes = writes_of (kind_at w.board c) (message_was c (partner w.board.sets c) refl j);
      })

  -- ---- its rank, and the others

  last_here : is_some o ≡ true → last_call (moved w p r o m).board p ≡ call_id p (length (calls_of w.board p))
  last_here some = ap (λ (l : List Call). call_id p (length l - 1)) calls_moved ∙ by_call o some
    where
      by_call : (k : Option Call) → is_some k ≡ true → call_id p (length (calls_of w.board p ++ more k) - 1) ≡ call_id p (length (calls_of w.board p))
      by_call None e = absurd (cc)
      by_call (Some c) e = ap (call_id p) (let l = length-append (calls_of w.board p) (c ∷ []) in omega (arith, l))

  last_issued : is_some o ≡ true → call_at (moved w p r o m).board (last_call (moved w p r o m).board p) ≡ o
  last_issued some = ap (call_at (moved w p r o m).board) (last_here some) ∙ call_new some

  kind_last : is_some o ≡ true → kind_at (moved w p r o m).board (last_call (moved w p r o m).board p) ≡ kind_of o
  kind_last some = ap kind_of (last_issued some)

  pub quieted_new : quieted (moved w p r o m).board p r ≡ record { rest = r.rest; vars = live_vars (overwritten (kind_of o)) r.activity r.rest r.vars; handles = r.handles; out = []; activity = r.activity }
  quieted_new = λ j. record { rest = r.rest; vars = by_blocked (is_blocked r.activity) refl j; handles = r.handles; out = []; activity = r.activity }
    where
      by_blocked : (b : Bool) → is_blocked r.activity ≡ b
          → live_vars (overwritten (kind_at (moved w p r o m).board (last_call (moved w p r o m).board p))) r.activity r.rest r.vars ≡ live_vars (overwritten (kind_of o)) r.activity r.rest r.vars
      by_blocked true e = ap (λ (k : Option CallKind). live_vars (overwritten k) r.activity r.rest r.vars) (kind_last (f.issued e))
      by_blocked false e = live_any (overwritten (kind_at (moved w p r o m).board (last_call (moved w p r o m).board p))) (overwritten (kind_of o)) r.activity r.rest r.vars e

  quieted_apart : (q : ℕ) → q ≢ p → (x : Option RankWorld) → option_map (quieted (moved w p r o m).board q) x ≡ option_map (quieted w.board q) x
  quieted_apart q ne x =
      ap (λ (l : List Call). option_map (λ (z : RankWorld). record { rest = z.rest; vars = live_vars (overwritten (kind_of (slice_get l (length l - 1)))) z.activity z.rest z.vars; handles = z.handles; out = []; activity = z.activity }) x) (calls_apart q ne)

  -- ---- what was due before

  rank_here : slice_get (moved w p r o m).ranks p ≡ Some r
  rank_here = read_written w.ranks p f.old r f.here

  held_here : (i : ℕ) → IsHeld (moved w p r o m) (call_id p i) → IsHeld w (call_id p i) ⊎ (IsNew w p o (call_id p i) × (is_message_kind (kind_of o) ≡ true))
  held_here i h =
      let e : option_map (call_id p) (slice_index_or r.handles h.0 None) ≡ Some (call_id p i) = sym (ap (λ (x : Option RankWorld). held_in p x (Some h.0)) rank_here) ∙ h.1 in
      let x = mapped_from (call_id p) (slice_index_or r.handles h.0 None) (call_id p i) e in
      f.handles h.0 i (x.1 ∙ ap (λ (c : CallId). Some c.index) x.2)

  waited_here : (i : ℕ) → IsWaitedFor (moved w p r o m) (call_id p i) → IsHeld w (call_id p i) ⊎ IsNew w p o (call_id p i)
  waited_here i h = by_which h.1
    where
      some : is_some o ≡ true
      some = f.issued (sym (ap waits rank_here) ∙ h.0)

      by_which : (last_call (moved w p r o m).board p ≡ call_id p i) ⊎ (awaited (moved w p r o m).board (last_call (moved w p r o m).board p) ≡ Some (call_id p i)) → IsHeld w (call_id p i) ⊎ IsNew w p o (call_id p i)
      by_which (inl e) = inr (some, refl, ap (λ (c : CallId). c.index) (sym e ∙ last_here some))
      by_which (inr e) = f.target some i ((λ j. awaited_by (call_id p (length (calls_of w.board p))) (sym (kind_new some) j)) ∙ sym (ap (awaited (moved w p r o m).board) (last_here some)) ∙ e)

  due_here : (i : ℕ) → Due (moved w p r o m) (call_id p i) → Due w (call_id p i) ⊎ IsNew w p o (call_id p i)
  due_here i (inl h) =
      elim (held_here i h) [
        | inl was ↦ inl (inl was)
        | inr new ↦ inr new.0
      ]
  due_here i (inr h) =
      elim (waited_here i h) [
        | inl was ↦ inl (inl was)
        | inr new ↦ inr new
      ]

  rank_apart : (q : ℕ) → q ≢ p → slice_get (moved w p r o m).ranks q ≡ slice_get w.ranks q
  rank_apart q ne = others_kept w.ranks p q r ne

  held_apart : (c : CallId) → c.rank ≢ p → IsHeld (moved w p r o m) c → IsHeld w c
  held_apart c ne h = (h.0, ap (λ (x : Option RankWorld). held_in c.rank x (Some h.0)) (sym (rank_apart c.rank ne)) ∙ h.1)

  last_apart : (q : ℕ) → q ≢ p → last_call (moved w p r o m).board q ≡ last_call w.board q
  last_apart q ne = ap (λ (l : List Call). call_id q (length l - 1)) (calls_apart q ne)

  -- where a rank is blocked, which statement issued its last call
  stands_here : waits (slice_get (moved w p r o m).ranks p) ≡ true → last_statement (moved w p r o m).board p ≡ statement_of o
  stands_here e = ap statement_of (last_issued (f.issued (sym (ap waits rank_here) ∙ e)))

  stands_apart : (q : ℕ) → q ≢ p → last_statement (moved w p r o m).board q ≡ last_statement w.board q
  stands_apart q ne = ap (λ (l : List Call). statement_of (slice_get l (length l - 1))) (calls_apart q ne)

  awaited_apart : (q : ℕ) → q ≢ p → awaited (moved w p r o m).board (last_call (moved w p r o m).board q) ≡ awaited w.board (last_call w.board q)
  awaited_apart q ne = ap (λ (l : List Call). awaited_by (call_id q (length l - 1)) (kind_of (slice_get l (length l - 1)))) (calls_apart q ne)

  due_apart : (c : CallId) → c.rank ≢ p → Due (moved w p r o m) c → Due w c
  due_apart c ne (inl h) = inl (held_apart c ne h)
  due_apart c ne (inr h) = inr (ap waits (sym (rank_apart c.rank ne)) ∙ h.0, by_which h.1)
    where
      by_which : (last_call (moved w p r o m).board c.rank ≡ c) ⊎ (awaited (moved w p r o m).board (last_call (moved w p r o m).board c.rank) ≡ Some c)
          → (last_call w.board c.rank ≡ c) ⊎ (awaited w.board (last_call w.board c.rank) ≡ Some c)
      by_which (inl e) = inl (sym (last_apart c.rank ne) ∙ e)
      by_which (inr e) = inr (sym (awaited_apart c.rank ne) ∙ e)

  pub due_before : (c : CallId) → Due (moved w p r o m) c → Due w c ⊎ IsNew w p o c
  due_before c d =
      elim (eqb_tells c.rank p) [
        | inl at ↦ subst (λ (q : ℕ). Due (moved w p r o m) (call_id q c.index) → Due w (call_id q c.index) ⊎ IsNew w p o (call_id q c.index)) (sym at.1) (due_here c.index) d
        | inr off ↦ inl (due_apart c off.1 d)
      ]

  -- ---- it stays tidy

  held_message : (c : CallId) → IsHeld w c ⊎ (IsNew w p o c × (is_message_kind (kind_of o) ≡ true)) → is_message_kind (kind_at (moved w p r o m).board c) ≡ true
  held_message c (inl was) =
      let message = tidy.held c was in
      ap is_message_kind (kind_kept w p r o m c (known_message (kind_at w.board c) message)) ∙ message
    where
      known_message : (k : Option CallKind) → is_message_kind k ≡ true → is_some k ≡ true
      known_message None e = cc
      known_message (Some k) e = refl
  held_message c (inr new) = ap is_message_kind (kind_of_new c new.0) ∙ new.1

  held_before : (c : CallId) → IsHeld (moved w p r o m) c → IsHeld w c ⊎ (IsNew w p o c × (is_message_kind (kind_of o) ≡ true))
  held_before c h =
      elim (eqb_tells c.rank p) [
        | inl at ↦
            subst (λ (q : ℕ). IsHeld (moved w p r o m) (call_id q c.index) → IsHeld w (call_id q c.index) ⊎ (IsNew w p o (call_id q c.index) × (is_message_kind (kind_of o) ≡ true))) (sym at.1) (held_here c.index) h
        | inr off ↦ inl (held_apart c off.1 h)
      ]

  issued_length : (k : Option Call) → length (issued_calls w.board.calls p k) ≡ length w.board.calls
  issued_length None = refl
  issued_length (Some c) = length-set w.board.calls p _

  pub moved_tidy : Tidy (moved w p r o m)
  moved_tidy = record {
    typed = λ c d e k.
        let was = sym (partner_formed w.board.sets m c) ∙ e in
        let both = tidy.known c d was in
        ap is_send (kind_kept w p r o m d both.1) ∙ tidy.typed c d was (sym (ap receives (kind_kept w p r o m c both.0)) ∙ k);
    known = λ c d e.
        let both = tidy.known c d (sym (partner_formed w.board.sets m c) ∙ e) in
        (ap (λ (k : Option CallKind). is_some k) (kind_kept w p r o m c both.0) ∙ both.0, ap (λ (k : Option CallKind). is_some k) (kind_kept w p r o m d both.1) ∙ both.1);
    held = λ c h. held_message c (held_before c h);
    sized = let a = length-set w.ranks p r in let b = issued_length o in let c = tidy.sized in omega (arith, a, b, c);
  }

-- ---- both go on

module _ (w v : World) (h : Alike w v) (p : ℕ) (r s : RankWorld) (o : Option Call) (m n : Option CallId) (f : Fits w p r o) (g : Fits v p s o) (tidy_w : Tidy w) (tidy_v : Tidy v) (same : quieted (moved w p r o m).board p r ≡ quieted (moved v p s o n).board p s) where
  new_there : (c : CallId) → IsNew w p o c → IsNew v p o c
  new_there c k = (k.0, k.1, k.2 ∙ h.counts p)

  new_back : (c : CallId) → IsNew v p o c → IsNew w p o c
  new_back c k = (k.0, k.1, k.2 ∙ sym (h.counts p))

  rank_moved : (q : ℕ) → option_map (quieted (moved w p r o m).board q) (slice_get (moved w p r o m).ranks q) ≡ option_map (quieted (moved v p s o n).board q) (slice_get (moved v p s o n).ranks q)
  rank_moved q =
      elim (eqb_tells q p) [
        | inl at ↦
            subst (λ (x : ℕ). option_map (quieted (moved w p r o m).board x) (slice_get (moved w p r o m).ranks x) ≡ option_map (quieted (moved v p s o n).board x) (slice_get (moved v p s o n).ranks x)) (sym at.1)
            (ap (option_map (quieted (moved w p r o m).board p)) (rank_here w p r o m f tidy_w) ∙ ap (λ (z : RankWorld). Some z) same ∙ sym (ap (option_map (quieted (moved v p s o n).board p)) (rank_here v p s o n g tidy_v)))
        | inr off ↦
            ap (option_map (quieted (moved w p r o m).board q)) (rank_apart w p r o m f tidy_w q off.1) ∙ quieted_apart w p r o m f tidy_w q off.1 (slice_get w.ranks q) ∙ h.ranks q
            ∙ sym (ap (option_map (quieted (moved v p s o n).board q)) (rank_apart v p s o n g tidy_v q off.1) ∙ quieted_apart v p s o n g tidy_v q off.1 (slice_get v.ranks q))
      ]

  count_here : (x : World) (t : RankWorld) (k : Option CallId) → Fits x p t o → Tidy x → length (calls_of (moved x p t o k).board p) ≡ length (calls_of x.board p) + length (more o)
  count_here x t k e tidy = ap (λ (l : List Call). length l) (calls_moved x p t o k e tidy) ∙ length-append (calls_of x.board p) (more o)

  counts_moved : (q : ℕ) → length (calls_of (moved w p r o m).board q) ≡ length (calls_of (moved v p s o n).board q)
  counts_moved q =
      elim (eqb_tells q p) [
        | inl at ↦
            subst (λ (x : ℕ). length (calls_of (moved w p r o m).board x) ≡ length (calls_of (moved v p s o n).board x)) (sym at.1)
            (count_here w r m f tidy_w ∙ ap (λ (k : ℕ). k + length (more o)) (h.counts p) ∙ sym (count_here v s n g tidy_v))
        | inr off ↦
            ap (λ (l : List Call). length l) (calls_apart w p r o m f tidy_w q off.1) ∙ h.counts q ∙ sym (ap (λ (l : List Call). length l) (calls_apart v p s o n g tidy_v q off.1))
      ]

  opens_moved : (c : CallId) → open_call (moved w p r o m).board c ≡ open_call (moved v p s o n).board c
  opens_moved c =
      elim (new_or_not w p o c) [
        | inl new ↦ open_new w p r o m f tidy_w c new ∙ sym (open_new v p s o n g tidy_v c (new_there c new))
        | inr old ↦ open_was w p r o m f tidy_w c old ∙ h.opens c ∙ sym (open_was v p s o n g tidy_v c (λ k. old (new_back c k)))
      ]

  due_moved : (c : CallId) → Due (moved w p r o m) c → seen (moved w p r o m).board c ≡ seen (moved v p s o n).board c
  due_moved c d =
      elim (new_or_not w p o c) [
        | inl new ↦ seen_new w p r o m f tidy_w c new ∙ sym (seen_new v p s o n g tidy_v c (new_there c new))
        | inr old ↦ seen_was w p r o m f tidy_w c old ∙ h.due c (was_due (due_before w p r o m f tidy_w c d) old) ∙ sym (seen_was v p s o n g tidy_v c (λ k. old (new_back c k)))
      ]
    where
      was_due : Due w c ⊎ IsNew w p o c → (IsNew w p o c → ⊥) → Due w c
      was_due (inl was) old = was
      was_due (inr new) old = absurd (old new)

  waits_moved : (q : ℕ) → waits (slice_get (moved w p r o m).ranks q) ≡ true → waits (slice_get (moved v p s o n).ranks q) ≡ true
  waits_moved q e =
      sym (waits_quiet (moved v p s o n).board q (slice_get (moved v p s o n).ranks q)) ∙ ap waits (sym (rank_moved q)) ∙ waits_quiet (moved w p r o m).board q (slice_get (moved w p r o m).ranks q) ∙ e

  stands_moved : (q : ℕ) → waits (slice_get (moved w p r o m).ranks q) ≡ true → last_statement (moved w p r o m).board q ≡ last_statement (moved v p s o n).board q
  stands_moved q e =
      elim (eqb_tells q p) [
        | inl at ↦
            subst (λ (x : ℕ). waits (slice_get (moved w p r o m).ranks x) ≡ true → waits (slice_get (moved v p s o n).ranks x) ≡ true → last_statement (moved w p r o m).board x ≡ last_statement (moved v p s o n).board x)
            (sym at.1)
            (λ a b. stands_here w p r o m f tidy_w a ∙ sym (stands_here v p s o n g tidy_v b))
            e
            (waits_moved q e)
        | inr off ↦
            stands_apart w p r o m f tidy_w q off.1 ∙ h.stands q (ap waits (sym (rank_apart w p r o m f tidy_w q off.1)) ∙ e) ∙ sym (stands_apart v p s o n g tidy_v q off.1)
      ]

  pub moved_alike : Alike (moved w p r o m) (moved v p s o n)
  moved_alike = record {
    ranks = rank_moved;
    size = length-set w.ranks p r ∙ h.size ∙ sym (length-set v.ranks p s);
    mode = h.mode;
    many = issued_length w p r o m f tidy_w o ∙ h.many ∙ sym (issued_length v p s o n g tidy_v o);
    counts = counts_moved;
    opens = opens_moved;
    due = due_moved;
    stands = stands_moved;
  }
